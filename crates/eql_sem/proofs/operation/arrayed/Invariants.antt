use Rattle.std.proofs.Common.{◌≡◌, ◌++◌, drop}
use Rattle.ev_value.specs.Item.{bind, one}
use Rattle.ev_value.specs.declared.value.Val.TheVariants as made
use Rattle.eql_sem.proofs.operation.arrayed.Given as goal

abbrev pub invariant-loop-turn : goal.invariant-loop-turn
invariant-loop-turn l = l.all ++ bind (drop l.turn-index l.turn-items) (λ vs. one (made.Array vs)) ≡ bind l.turn-items (λ vs. one (made.Array vs))
