use Rattle.std.proofs.Common.{◌≡◌, ◌++◌, ◌∷◌, drop}
use Rattle.ev_value.specs.Item.{bind, one}
use Rattle.eql_sem.proofs.path_list.add_turns.Given as goal

abbrev pub invariant-loop-turn : goal.invariant-loop-turn
invariant-loop-turn l = l.all ++ bind (drop l.turn-index l.turns) (λ x. one (x ∷ l.bounds)) ≡ l.initial.all ++ bind l.turns (λ x. one (x ∷ l.bounds))
