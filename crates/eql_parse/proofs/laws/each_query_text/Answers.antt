use Rattle.eql_grammar.proofs.Promise.{each_text}
use Rattle.eql_parse.proofs.laws.each_query_text.Goals as goal

pub returns : goal.returns
returns c = each_text
