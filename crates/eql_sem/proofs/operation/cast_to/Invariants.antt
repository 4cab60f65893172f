use Rattle.std.proofs.Common.{◌≡◌, ◌++◌, drop}
use Rattle.eql_sem.specs.Operations.{cast_to}
use Rattle.eql_sem.proofs.operation.cast_to.Given as goal

abbrev pub invariant-loop-item : goal.invariant-loop-item
invariant-loop-item l = l.all ++ cast_to l.ty (drop l.item-index l.items) ≡ cast_to l.ty l.items
