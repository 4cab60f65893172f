use Rattle.std.proofs.Common.{◌≡◌, ◌++◌, drop}
use Rattle.sql_check.specs.Types.{sorts_of}
use Rattle.sql_check.proofs.columns.sorts_of.Given as goal

abbrev pub invariant-loop-column : goal.invariant-loop-column
invariant-loop-column l = l.sorts ++ sorts_of (drop l.column-index l.columns) ≡ sorts_of l.columns
