use Rattle.std.proofs.Common.{◌≡◌, ◌++◌, drop}
use Rattle.ev_value.specs.Item.{all_of}
use Rattle.sql_exec.proofs.turn.as_items.Given as goal

abbrev pub invariant-loop-row : goal.invariant-loop-row
invariant-loop-row l = l.items ++ all_of (drop l.row-index l.rows) ≡ all_of l.rows
