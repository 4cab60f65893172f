use Rattle.std.proofs.Common.{◌≡◌, ◌++◌, ◌∷◌, drop}
use Rattle.eql_sem.proofs.operation.with_front.Given as goal

abbrev pub invariant-loop-item : goal.invariant-loop-item
invariant-loop-item g l = l.all ++ drop l.item-index l.rest ≡ l.fn.front ∷ l.rest
