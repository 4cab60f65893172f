use Rattle.std.proofs.Common.{◌≡◌, ◌++◌, drop, map}
use Rattle.eql_sem.specs.Meaning.{order_of}
use Rattle.eql_sem.proofs.row.orders_of.Given as goal

abbrev pub invariant-loop-key : goal.invariant-loop-key
invariant-loop-key l = l.all ++ map order_of (drop l.key-index l.keys) ≡ map order_of l.keys
