use Rattle.edge_run.proofs.QueryLaws.{one_query}
use Rattle.edge_run.proofs.laws.one_query.Goals as goal

pub returns : goal.returns
returns c = one_query
