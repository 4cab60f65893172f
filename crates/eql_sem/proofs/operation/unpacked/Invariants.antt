use Rattle.std.proofs.Common.{◌≡◌, ◌++◌, drop}
use Rattle.eql_sem.specs.Operations.{unpacked}
use Rattle.eql_sem.proofs.operation.unpacked.Given as goal

abbrev pub invariant-loop-item : goal.invariant-loop-item
invariant-loop-item l = l.all ++ unpacked (drop l.item-index l.items) ≡ unpacked l.items
