use Rattle.std.proofs.Common.{◌≡◌, ◌++◌, drop}
use Rattle.ev_value.specs.Item.{bind}
use Rattle.eql_sem.specs.Selects.{range_of}
use Rattle.eql_sem.proofs.row.ranges.Given as goal

abbrev pub invariant-loop-item : goal.invariant-loop-item
invariant-loop-item l = l.all ++ bind (drop l.item-index l.offsets) (λ x. bind l.limits (range_of x)) ≡ bind l.offsets (λ x. bind l.limits (range_of x))
