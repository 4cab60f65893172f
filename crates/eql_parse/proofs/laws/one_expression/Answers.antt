use Rattle.eql_parse.proofs.Queries.{one_expression}
use Rattle.eql_parse.proofs.laws.one_expression.Goals as goal

pub returns : goal.returns
returns c = one_expression
