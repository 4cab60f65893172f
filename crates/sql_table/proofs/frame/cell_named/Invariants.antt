use Rattle.std.proofs.Common.{◌≡◌, ◌≤◌, drop, length}
use Rattle.sql_table.specs.Names.{cell_named}
use Rattle.sql_table.proofs.frame.cell_named.Given as goal

abbrev pub invariant-loop-i : goal.invariant-loop-i
invariant-loop-i l = (cell_named l.name (drop l.i l.names) (drop l.i l.cells) ≡ cell_named l.name l.names l.cells) × (l.i ≤ length l.cells)
