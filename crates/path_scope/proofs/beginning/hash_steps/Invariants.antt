-- What was fed is what the steps so far are.
use Rattle.std.proofs.Common.{◌≡◌, take, fold}
use Rattle.std.specs.List.{flat_map}
use Rattle.path_scope.specs.Beginning.{step_input}
use Rattle.path_scope.proofs.beginning.hash_steps.Given as goal

abbrev pub invariant-loop-step : goal.invariant-loop-step
invariant-loop-step g l = l.state ≡ fold g.H.Hasher.write l.initial.state (flat_map step_input (take l.step-index l.steps))
