use Rattle.std.proofs.Common.{◌≡◌, ◌++◌, drop}
use Rattle.sql_table.specs.Meaning.{each_under}
use Rattle.sql_exec.proofs.turn.each_row.Given as goal

abbrev pub invariant-loop-item : goal.invariant-loop-item
invariant-loop-item l = l.turns ++ each_under l.alias l.columns l.scope (drop l.item-index l.rows) ≡ each_under l.alias l.columns l.scope l.rows
