use Rattle.edge_run.proofs.Decisions.{one_decision}
use Rattle.edge_run.proofs.laws.one_decision.Goals as goal

pub returns : goal.returns
returns c = one_decision
