use Rattle.std.proofs.Common.{◌≡◌, ◌++◌, drop}
use Rattle.eql_sem.specs.Operations.{equal_places}
use Rattle.eql_sem.proofs.operation.add_equal.Given as goal

abbrev pub invariant-loop-place : goal.invariant-loop-place
invariant-loop-place l = l.all ++ equal_places l.negated l.left (drop l.place-index l.right) ≡ l.initial.all ++ equal_places l.negated l.left l.right
