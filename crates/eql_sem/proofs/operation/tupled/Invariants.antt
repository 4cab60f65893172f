use Rattle.std.proofs.Common.{◌≡◌, ◌++◌, drop}
use Rattle.ev_value.specs.Item.{bind, one}
use Rattle.eql_sem.specs.Operations.{tuple_of}
use Rattle.eql_sem.proofs.operation.tupled.Given as goal

abbrev pub invariant-loop-component : goal.invariant-loop-component
invariant-loop-component l = l.all ++ bind (drop l.component-index l.component-items) (λ xs. one (tuple_of xs)) ≡ bind l.component-items (λ xs. one (tuple_of xs))
