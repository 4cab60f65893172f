use Rattle.edge_run.proofs.EachText.{each_decision}
use Rattle.edge_run.proofs.laws.each_decision.Goals as goal

pub returns : goal.returns
returns c = each_decision
