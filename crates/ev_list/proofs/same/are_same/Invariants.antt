use Rattle.std.proofs.Common.{◌≡◌, drop, length}
use Rattle.std.specs.Cmp.Lexicographic.{pointwise}
use Rattle.ev_list.proofs.same.are_same.Given as goal

abbrev pub invariant-loop-i : goal.invariant-loop-i
invariant-loop-i g l = (pointwise g.T.Same.same (drop l.i l.left) (drop l.i l.right) ≡ pointwise g.T.Same.same l.left l.right) × (length l.left ≡ length l.right)
