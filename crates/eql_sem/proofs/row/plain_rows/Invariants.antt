use Rattle.std.proofs.Common.{◌≡◌, ◌++◌, drop}
use Rattle.eql_sem.specs.Selects.{plain_rows}
use Rattle.eql_sem.proofs.row.plain_rows.Given as goal

abbrev pub invariant-loop-item : goal.invariant-loop-item
invariant-loop-item l = l.all ++ plain_rows (drop l.item-index l.rows) ≡ plain_rows l.rows
