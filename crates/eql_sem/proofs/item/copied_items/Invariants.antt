use Rattle.std.proofs.Common.{◌≡◌, take}
use Rattle.eql_sem.proofs.item.copied_items.Given as goal

abbrev pub invariant-loop-item : goal.invariant-loop-item
invariant-loop-item l = l.all ≡ take l.item-index l.items
