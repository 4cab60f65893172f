use Rattle.std.proofs.Common.{◌≡◌, ◌++◌, drop}
use Rattle.ev_value.specs.Item.{bind}
use Rattle.eql_sem.specs.Operations.{equal_places}
use Rattle.eql_sem.proofs.operation.optional_equal.Given as goal

abbrev pub invariant-loop-place : goal.invariant-loop-place
invariant-loop-place l = l.all ++ bind (drop l.place-index l.place-items) (λ x. equal_places l.negated x l.others) ≡ bind l.place-items (λ x. equal_places l.negated x l.others)
