use Rattle.std.proofs.Common.{◌≡◌, ◌++◌, drop, Some}
use Rattle.ev_value.specs.Item.{bind, one}
use Rattle.eql_sem.proofs.operation.or_empty.Given as goal

abbrev pub invariant-loop-item : goal.invariant-loop-item
invariant-loop-item l = l.all ++ bind (drop l.item-index l.items) (λ v. one (Some v)) ≡ bind l.items (λ v. one (Some v))
