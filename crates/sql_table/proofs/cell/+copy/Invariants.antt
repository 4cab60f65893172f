use Rattle.std.proofs.Common.{◌≡◌, take}
use Rattle.sql_table.proofs.cell.+copy.Given as goal

abbrev pub invariant-copied_cells-loop-cell : goal.invariant-copied_cells-loop-cell
invariant-copied_cells-loop-cell l = l.copies ≡ take l.cell-index l.cells
