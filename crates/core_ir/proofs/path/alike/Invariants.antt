-- What was alike so far, and what is alike from here on.
use Rattle.std.proofs.Common.{◌≡◌, ◌+◌, drop}
use Rattle.core_ir.specs.Path.{alike}
use Rattle.core_ir.proofs.path.alike.Given as goal

abbrev pub invariant-loop-step : goal.invariant-loop-step
invariant-loop-step l = (alike (drop l.step-index l.left) l.rest + l.count ≡ alike l.left l.right) × (l.count ≡ l.step-index)
