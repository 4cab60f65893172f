use Rattle.edge_run.proofs.DueLaws.{one_due}
use Rattle.edge_run.proofs.laws.one_due.Goals as goal

pub returns : goal.returns
returns c = one_due
