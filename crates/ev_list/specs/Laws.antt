-- The laws of orders and of first occurrences.
use Rattle.std.specs.Prelude.{◌≡◌, ◌↔◌, Bool, true, false, List, [], ◌∷◌, ◌++◌, length, filter, Option, Some, None, if◌then◌else◌}
use Rattle.std.specs.Cmp.Lexicographic.{pointwise}
use Rattle.std.specs.List.{list_any}
use Rattle.std.specs.Ordering.{is_eq}
use Rattle.ev_value.specs.Order.{val_cmp}
use Rattle.ev_value.specs.declared.value.Val.{Val}
use Rattle.ev_list.specs.Occurrence.{distinct, has_repeat}
use Rattle.ev_list.specs.Order.{in_order, is_behind}
use Rattle.ev_list.specs.declared.order.KeyOrder.{KeyOrder}
use Rattle.ev_list.specs.declared.order.Keyed.{Keyed}

-- whether two keys are the same
abbrev pub key_same : Option Val → Option Val → Bool
key_same None None = true
key_same (Some v) (Some w) = is_eq (val_cmp v w)
key_same _ _ = false

-- no element stands behind the one that follows it
abbrev pub StandInOrder : {A : Type 0} → List KeyOrder → List (Keyed A) → Type 0
StandInOrder ks [] = Unit {0}
StandInOrder ks (x ∷ []) = Unit {0}
StandInOrder ks (x ∷ y ∷ more) = (is_behind ks x y ≡ false) × StandInOrder ks (y ∷ more)

-- a sort gives the same elements, each as often; they stand in order; and those with the same keys stand as they stood
pub record SortIsStable (A : Type 0) : Type 0 where
  pub as_often : (ks : List KeyOrder) (xs : List (Keyed A)) (test : Keyed A → Bool) → length (filter test (in_order ks xs)) ≡ length (filter test xs)
  pub ordered : (ks : List KeyOrder) (xs : List (Keyed A)) → StandInOrder ks (in_order ks xs)
  pub stable : (ks : List KeyOrder) (xs : List (Keyed A)) (keys : List (Option Val)) → filter (λ x. pointwise key_same keys x.keys) (in_order ks xs) ≡ filter (λ x. pointwise key_same keys x.keys) xs

-- Of a list followed by one more element, that element is kept exactly where it did not occur before; so no element is
-- kept twice, and each stands where it occurs first.
pub record KeepsFirstOccurrences {A : Type 0} (same : A → A → Bool) : Type 0 where
  pub of_none : distinct same [] ≡ []
  pub of_more : (xs : List A) (x : A) → distinct same (xs ++ x ∷ []) ≡ distinct same xs ++ (if list_any (same x) xs then [] else (x ∷ []))
  pub once : (xs : List A) → has_repeat same (distinct same xs) ≡ false
