use Rattle.sdl_grammar.proofs.Promise.{each_text}
use Rattle.sdl_parse.proofs.laws.each_schema_text.Goals as goal

pub returns : goal.returns
returns c = each_text
