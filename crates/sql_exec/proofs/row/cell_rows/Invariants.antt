use Rattle.std.proofs.Common.{◌≡◌, ◌++◌, reverse, length, map}
use Rattle.sql_exec.specs.Engine.{cell_row}
use Rattle.sql_exec.proofs.row.cell_rows.Given as goal

abbrev pub invariant-loop-cell : goal.invariant-loop-cell
invariant-loop-cell l = map cell_row l.left ++ reverse l.taken.items ≡ map cell_row l.fn.cells

abbrev pub decreases-loop-cell : goal.decreases-loop-cell
decreases-loop-cell l = length l.left
