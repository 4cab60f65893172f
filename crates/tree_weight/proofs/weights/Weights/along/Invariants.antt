-- The steps that are left lead from where it is to the end.
use Rattle.std.proofs.Common.{◌≡◌, drop}
use Rattle.tree_weight.specs.Capped.{brought_of, capped_sizes}
use Rattle.tree_weight.specs.Measure.{along}
use Rattle.tree_weight.proofs.weights.Weights.along.Given as goal

abbrev pub invariant-loop-step : goal.invariant-loop-step
invariant-loop-step l = along capped_sizes (brought_of l.self) l.reached (drop l.step-index l.steps) ≡ along capped_sizes (brought_of l.self) l.fn.from l.steps
