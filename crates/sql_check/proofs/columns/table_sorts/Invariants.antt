use Rattle.std.proofs.Common.{◌≡◌, drop}
use Rattle.sql_ast.specs.WellFormed.{columns_under}
use Rattle.sql_check.proofs.columns.table_sorts.Given as goal

abbrev pub invariant-loop-table : goal.invariant-loop-table
invariant-loop-table l = columns_under l.name (drop l.table-index l.tables) ≡ columns_under l.name l.tables
