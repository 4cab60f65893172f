use Rattle.std.proofs.Common.{◌≡◌, ◌++◌, drop}
use Rattle.sql_table.specs.Forms.{orders_of_keys}
use Rattle.sql_exec.proofs.row.orders.Given as goal

abbrev pub invariant-loop-key : goal.invariant-loop-key
invariant-loop-key l = l.all ++ orders_of_keys (drop l.key-index l.keys) ≡ orders_of_keys l.keys
