use Rattle.std.proofs.Common.{◌≡◌, ◌++◌, drop}
use Rattle.sql_table.specs.Forms.{names_of}
use Rattle.sql_exec.proofs.row.names.Given as goal

abbrev pub invariant-loop-column : goal.invariant-loop-column
invariant-loop-column l = l.all ++ names_of (drop l.column-index l.columns) ≡ names_of l.columns
