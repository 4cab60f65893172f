use Rattle.std.proofs.Common.{◌≡◌, ◌∷◌, [], ◌++◌, drop}
use Rattle.ev_value.specs.Item.{bind}
use Rattle.ev_list.specs.Cut.{limit_of}
use Rattle.eql_sem.proofs.row.counted.Given as goal

abbrev pub invariant-loop-item : goal.invariant-loop-item
invariant-loop-item l = l.all ++ bind (drop l.item-index l.item-items) (λ x. limit_of x ∷ []) ≡ bind l.item-items (λ x. limit_of x ∷ [])
