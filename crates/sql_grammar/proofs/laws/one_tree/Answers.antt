use Rattle.sql_grammar.proofs.Promise.{one_select}
use Rattle.sql_grammar.proofs.laws.one_tree.Goals as goal

pub returns : goal.returns
returns c = one_select
