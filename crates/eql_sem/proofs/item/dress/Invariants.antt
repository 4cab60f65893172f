use Rattle.std.proofs.Common.{◌≡◌, ◌++◌, drop}
use Rattle.eql_sem.specs.Forms.{dress}
use Rattle.eql_sem.proofs.item.dress.Given as goal

abbrev pub invariant-loop-item : goal.invariant-loop-item
invariant-loop-item l = l.all ++ dress (drop l.item-index l.items) ≡ dress l.items
