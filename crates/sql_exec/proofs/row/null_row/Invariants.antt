use Rattle.std.proofs.Common.{◌≡◌, ◌++◌, drop}
use Rattle.sql_exec.specs.Engine.{nulls}
use Rattle.sql_exec.proofs.row.null_row.Given as goal

abbrev pub invariant-loop : goal.invariant-loop
invariant-loop l = l.cells ++ nulls (drop l.index l.columns) ≡ nulls l.columns
