use Rattle.edge_run.proofs.EachTask.{each_task}
use Rattle.edge_run.proofs.laws.something_is_due.Goals as goal

pub returns : goal.returns
returns c = each_task
