-- What is left from here decides.
use Rattle.std.proofs.Common.{◌≡◌, ◌≤◌, drop, length}
use Rattle.std.specs.Cmp.Lexicographic.{slice_cmp}
use Rattle.ev_value.specs.Order.{val_cmp}
use Rattle.ev_value.proofs.order.+order.Given as goal

abbrev pub invariant-cmp_vals-loop-i : goal.invariant-cmp_vals-loop-i
invariant-cmp_vals-loop-i l = (slice_cmp val_cmp (drop l.i l.left) (drop l.i l.right) ≡ slice_cmp val_cmp l.left l.right) × (l.i ≤ length l.right)
