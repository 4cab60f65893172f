use Rattle.eql_grammar.proofs.Promise.{one_tree}
use Rattle.eql_parse.proofs.laws.one_tree.Goals as goal

pub returns : goal.returns
returns c = one_tree
