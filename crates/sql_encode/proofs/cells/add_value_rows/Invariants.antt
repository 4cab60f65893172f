use Rattle.std.proofs.Common.{◌≡◌, ◌++◌, drop}
use Rattle.sql_encode.specs.Rows.{value_rows}
use Rattle.sql_encode.proofs.cells.add_value_rows.Given as goal

abbrev pub invariant-loop-value : goal.invariant-loop-value
invariant-loop-value l = l.rows ++ value_rows l.info l.object (drop l.value-index l.values) ≡ l.fn.rows ++ value_rows l.info l.object l.values
