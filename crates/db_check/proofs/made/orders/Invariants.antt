use Rattle.std.proofs.Common.{◌≡◌}
use Rattle.db_check.specs.Check.{orders_of}
use Rattle.db_check.proofs.made.orders.Given as goal

abbrev pub invariant-loop-k : goal.invariant-loop-k
invariant-loop-k l = l.all ≡ orders_of l.schema l.k
