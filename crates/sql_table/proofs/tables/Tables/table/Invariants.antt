use Rattle.std.proofs.Common.{◌≡◌, ◌≤◌, drop, length}
use Rattle.sql_table.specs.Names.{table_among}
use Rattle.sql_table.proofs.tables.Tables.table.Given as goal

abbrev pub invariant-loop-i : goal.invariant-loop-i
invariant-loop-i l = (table_among l.name (drop l.i l.self.catalog.tables) (drop l.i l.self.rows) ≡ table_among l.name l.self.catalog.tables l.self.rows) × (l.i ≤ length l.self.rows)
