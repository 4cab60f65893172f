use Rattle.std.proofs.Common.{◌≡◌, ◌++◌, drop}
use Rattle.sql_encode.specs.Rows.{target_rows}
use Rattle.sql_encode.proofs.cells.add_target_rows.Given as goal

abbrev pub invariant-loop-target : goal.invariant-loop-target
invariant-loop-target l = l.rows ++ target_rows l.info l.object (drop l.target-index l.targets) ≡ l.fn.rows ++ target_rows l.info l.object l.targets
