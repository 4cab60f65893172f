use Rattle.std.proofs.Common.{◌≡◌, drop}
use Rattle.sql_check.specs.Names.{is_among}
use Rattle.sql_check.specs.NameLists.{column_names}
use Rattle.sql_check.proofs.scope.is_given.Given as goal

abbrev pub invariant-loop-column : goal.invariant-loop-column
invariant-loop-column l = is_among l.name (column_names (drop l.column-index l.columns)) ≡ is_among l.name (column_names l.columns)
