use Rattle.std.proofs.Common.{◌≡◌, ◌++◌, reverse, length}
use Rattle.sql_table.specs.Operators.{present}
use Rattle.sql_table.proofs.operators.present.Given as goal

abbrev pub invariant-loop-cell : goal.invariant-loop-cell
invariant-loop-cell l = present l.left ++ reverse l.taken.items ≡ present l.fn.cells

abbrev pub decreases-loop-cell : goal.decreases-loop-cell
decreases-loop-cell l = length l.left
