-- The steps are the same exactly where those from here on are.
use Rattle.std.proofs.Common.{◌≡◌, drop}
use Rattle.core_ir.specs.Path.{steps_eq}
use Rattle.core_ir.proofs.path.same_steps.Given as goal

abbrev pub invariant-loop-step : goal.invariant-loop-step
invariant-loop-step l = steps_eq (drop l.step-index l.left) l.rest ≡ steps_eq l.left l.right
