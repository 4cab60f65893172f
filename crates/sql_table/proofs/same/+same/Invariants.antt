use Rattle.std.proofs.Common.{◌≡◌, drop, length}
use Rattle.std.specs.Cmp.Lexicographic.{pointwise}
use Rattle.sql_table.specs.Same.{cell_same}
use Rattle.sql_table.proofs.same.+same.Given as goal

abbrev pub invariant-all_same-loop-i : goal.invariant-all_same-loop-i
invariant-all_same-loop-i l = (pointwise cell_same (drop l.i l.left) (drop l.i l.right) ≡ pointwise cell_same l.left l.right) × (length l.left ≡ length l.right)
