-- When a cardinality holds of a list.
use Rattle.std.specs.Prelude.{◌≡◌, ◌⊎◌, true, List, ◌++◌, length}
use Rattle.ev_value.specs.Item.{bind, has_fault, EachValue}
use Rattle.ev_value.specs.declared.item.Item.{Item}
use Rattle.core_ir.specs.Card.{Within, times, plus, either}
use Rattle.core_ir.specs.declared.card.Card.{Card}

-- A fault stands in the list, or it has as many items as the cardinality says.
abbrev pub HoldsOf : {A : Type 0} → Card → List (Item A) → Type 0
HoldsOf c xs = (has_fault xs ≡ true) ⊎ Within c (length xs)

-- What holds of lists holds of what is made of them.
pub record HoldingIsKept (A B : Type 0) : Type 0 where
  -- of one list behind the other
  pub of_both : (c d : Card) (xs ys : List (Item A)) → HoldsOf c xs → HoldsOf d ys → HoldsOf (plus c d) (xs ++ ys)
  -- of what is made of each item of a list
  pub of_each : (c d : Card) (xs : List (Item A)) (f : A → List (Item B)) → HoldsOf c xs → EachValue (λ a. HoldsOf d (f a)) xs → HoldsOf (times c d) (bind xs f)
  -- of the one or the other
  pub of_first : (c d : Card) (xs : List (Item A)) → HoldsOf c xs → HoldsOf (either c d) xs
  pub of_second : (c d : Card) (xs : List (Item A)) → HoldsOf d xs → HoldsOf (either c d) xs
