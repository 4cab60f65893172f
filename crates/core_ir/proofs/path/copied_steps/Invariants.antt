-- The copies so far are the steps so far.
use Rattle.std.proofs.Common.{◌≡◌, take}
use Rattle.core_ir.proofs.path.copied_steps.Given as goal

abbrev pub invariant-loop-step : goal.invariant-loop-step
invariant-loop-step l = l.copies ≡ take l.step-index l.steps
