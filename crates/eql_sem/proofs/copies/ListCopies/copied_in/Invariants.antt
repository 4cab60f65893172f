-- The copies so far are the elements so far.
use Rattle.std.proofs.Common.{◌≡◌, take}
use Rattle.eql_sem.proofs.copies.ListCopies.copied_in.Given as goal

abbrev pub invariant-loop-item : goal.invariant-loop-item
invariant-loop-item g l = l.copies ≡ take l.item-index l.item-items
