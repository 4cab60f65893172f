use Rattle.std.proofs.Common.{◌≡◌, ◌++◌, drop}
use Rattle.eql_sem.specs.Operations.{member_items}
use Rattle.eql_sem.proofs.operation.members.Given as goal

abbrev pub invariant-loop-item : goal.invariant-loop-item
invariant-loop-item l = l.all ++ member_items l.negated (drop l.item-index l.left) l.set ≡ member_items l.negated l.left l.set
