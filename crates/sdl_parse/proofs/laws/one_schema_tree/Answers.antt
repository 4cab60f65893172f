use Rattle.sdl_grammar.proofs.Promise.{one_tree}
use Rattle.sdl_parse.proofs.laws.one_schema_tree.Goals as goal

pub returns : goal.returns
returns c = one_tree
