use Rattle.std.proofs.Common.{◌≡◌, ◌++◌, ◌∷◌, drop}
use Rattle.ev_value.specs.Item.{bind, one}
use Rattle.eql_sem.proofs.operation.add_fronts.Given as goal

abbrev pub invariant-loop-tail : goal.invariant-loop-tail
invariant-loop-tail g l = l.all ++ bind (drop l.tail-index l.tails) (λ rest. one (l.front ∷ rest)) ≡ l.initial.all ++ bind l.tails (λ rest. one (l.front ∷ rest))
