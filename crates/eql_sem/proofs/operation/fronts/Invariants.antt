use Rattle.std.proofs.Common.{◌≡◌, ◌++◌, ◌∷◌, drop}
use Rattle.ev_value.specs.Item.{bind, one}
use Rattle.eql_sem.proofs.operation.fronts.Given as goal

abbrev pub invariant-loop-item : goal.invariant-loop-item
invariant-loop-item g l = l.all ++ bind (drop l.item-index l.first) (λ x. bind l.tails (λ rest. one (x ∷ rest))) ≡ bind l.first (λ x. bind l.tails (λ rest. one (x ∷ rest)))
