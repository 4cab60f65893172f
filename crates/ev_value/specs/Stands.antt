-- A list of items that stands for another: some faults may be left out, but not all.
use Rattle.std.specs.Prelude.{◌≡◌, Bool, true, List, [], ◌∷◌}
use Rattle.ev_value.specs.Item.{has_fault}
use Rattle.ev_value.specs.declared.item.Fault.{Fault}
use Rattle.ev_value.specs.declared.item.Item.{Item}
use Rattle.ev_value.specs.declared.item.Item.TheVariants as item

-- the values of two lists are related place by place, and so are their faults, but those of the second list that are
-- left out, where that may be
pub data InPlace {A B : Type 0} (may : Bool) (R : A → B → Type 0) : List (Item A) → List (Item B) → Type 0 where
  in_end : InPlace may R [] []
  in_value : {a : A} {b : B} {xs : List (Item A)} {ys : List (Item B)} → R a b → InPlace may R xs ys → InPlace may R (item.Value a ∷ xs) (item.Value b ∷ ys)
  in_fault : {e : Fault} {xs : List (Item A)} {ys : List (Item B)} → InPlace may R xs ys → InPlace may R (item.Fault e ∷ xs) (item.Fault e ∷ ys)
  left_out : {e : Fault} {xs : List (Item A)} {ys : List (Item B)} → may ≡ true → InPlace may R xs ys → InPlace may R xs (item.Fault e ∷ ys)

-- the first list stands for the second: place by place, and with a fault where the second has one
pub record StandsFor {A B : Type 0} (may : Bool) (R : A → B → Type 0) (xs : List (Item A)) (ys : List (Item B)) : Type 0 where
  pub in_place : InPlace may R xs ys
  pub told : has_fault xs ≡ has_fault ys

-- two lists whose elements are related place by place
abbrev pub Alike : {A B : Type 0} → (A → B → Type 0) → List A → List B → Type 0
Alike R [] [] = Unit {0}
Alike R (a ∷ more) (b ∷ rest) = R a b × Alike R more rest
Alike R _ _ = ⊥
