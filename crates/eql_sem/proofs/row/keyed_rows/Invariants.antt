use Rattle.std.proofs.Common.{◌≡◌, ◌++◌, drop}
use Rattle.eql_sem.specs.Selects.{keyed_rows}
use Rattle.eql_sem.proofs.row.keyed_rows.Given as goal

abbrev pub invariant-loop-list : goal.invariant-loop-list
invariant-loop-list l = l.all ++ keyed_rows l.bounds l.item (drop l.list-index l.keys) ≡ keyed_rows l.bounds l.item l.keys
