use Rattle.std.proofs.Common.{◌≡◌, ◌++◌, ◌∷◌, drop}
use Rattle.eql_sem.proofs.binding.with_bound.Given as goal

abbrev pub invariant-loop-other : goal.invariant-loop-other
invariant-loop-other l = l.all ++ drop l.other-index l.bounds ≡ l.fn.bound ∷ l.bounds
