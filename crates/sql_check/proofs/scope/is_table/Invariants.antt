use Rattle.std.proofs.Common.{◌≡◌, drop}
use Rattle.sql_ast.specs.WellFormed.{columns_under}
use Rattle.sql_check.specs.Names.{is_there}
use Rattle.sql_check.proofs.scope.is_table.Given as goal

abbrev pub invariant-loop-table : goal.invariant-loop-table
invariant-loop-table l = is_there (columns_under l.name (drop l.table-index l.tables)) ≡ is_there (columns_under l.name l.tables)
