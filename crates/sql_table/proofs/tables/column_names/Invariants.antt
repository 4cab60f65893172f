use Rattle.std.proofs.Common.{◌≡◌, ◌++◌, drop, map}
use Rattle.sql_table.specs.Names.{columns_of}
use Rattle.sql_table.proofs.tables.column_names.Given as goal

abbrev pub invariant-loop-column : goal.invariant-loop-column
invariant-loop-column l = l.names ++ map (λ c. c.name) (drop l.column-index l.shape.columns) ≡ columns_of l.shape
