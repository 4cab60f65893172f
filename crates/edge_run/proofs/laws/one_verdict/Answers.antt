use Rattle.edge_run.proofs.PlanLaws.{one_verdict}
use Rattle.edge_run.proofs.laws.one_verdict.Goals as goal

pub returns : goal.returns
returns c = one_verdict
