use Rattle.std.proofs.Common.{refl}
use Rattle.edge_run.proofs.PlanLaws.{stopped, quiet}
use Rattle.edge_run.proofs.modes.answer_over.Goals as goal

pub returns-in-Err : goal.returns-in-Err
returns-in-Err c = λ shelf. stopped _ shelf shelf _ (refl, quiet shelf)
