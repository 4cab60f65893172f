use Rattle.std.proofs.Common.{◌≡◌, drop}
use Rattle.ev_value.specs.Item.{has_fault}
use Rattle.eql_sem.proofs.item.any_fault.Given as goal

abbrev pub invariant-loop-item : goal.invariant-loop-item
invariant-loop-item g l = has_fault (drop l.item-index l.items) ≡ has_fault l.items
