use Rattle.std.proofs.Common.{◌≡◌, drop}
use Rattle.sql_table.specs.Meaning.{first_cells}
use Rattle.sql_exec.proofs.Lists.{after}
use Rattle.sql_exec.proofs.row.first_cells.Given as goal

abbrev pub invariant-loop-item : goal.invariant-loop-item
invariant-loop-item l = after l.cells (first_cells (drop l.item-index l.rows)) ≡ first_cells l.rows
