use Rattle.std.proofs.Common.{◌≡◌, take}
use Rattle.eql_sem.proofs.binding.copied_bounds.Given as goal

abbrev pub invariant-loop-bound : goal.invariant-loop-bound
invariant-loop-bound l = l.all ≡ take l.bound-index l.bounds
