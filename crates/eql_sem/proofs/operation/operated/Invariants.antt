use Rattle.std.proofs.Common.{◌≡◌, ◌++◌, ◌∷◌, [], drop}
use Rattle.ev_value.specs.Item.{bind}
use Rattle.ev_value.specs.Operator.{item_of_op}
use Rattle.eql_sem.proofs.operation.operated.Given as goal

abbrev pub invariant-loop-operand : goal.invariant-loop-operand
invariant-loop-operand l = l.all ++ bind (drop l.operand-index l.operand-items) (λ vs. item_of_op l.operator vs ∷ []) ≡ bind l.operand-items (λ vs. item_of_op l.operator vs ∷ [])
