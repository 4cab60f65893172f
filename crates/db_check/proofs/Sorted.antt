-- Elements in order of one key.
use Rattle.std.proofs.Common.{◌≡◌, ◌≢◌, suc, Bool, true, false, ◌||◌, List, [], ◌∷◌, length, Some, cond, refl, ap, ◌∙◌}
use Rattle.std.specs.List.{list_any}
use Rattle.std.specs.Ordering.{is_gt, is_lt, ordering_reverse}
use Rattle.std.specs.declared.cmp.Ordering.{Ordering}
use Rattle.std.specs.declared.cmp.Ordering.TheVariants.{Less, Equal, Greater}
use Rattle.ev_value.specs.Order.{val_cmp}
use Rattle.ev_value.specs.declared.value.Val.{Val}
use Rattle.ev_value.proofs.Orders.{values_ordered}
use Rattle.ev_list.specs.Order.{placed, is_behind, in_order, keyless}
use Rattle.ev_list.specs.declared.order.Keyed.{Keyed}
use Rattle.ev_schema.specs.Policies.{by_name}
use Rattle.db_store.specs.Fits.{Each, Ascend}
use Rattle.db_check.proofs.IdOrder.{each_more, then_equal}

-- ---- of two keys one is less, or they are equal

less_turned : (o : Ordering) → is_gt o ≡ true → is_lt (ordering_reverse o) ≡ true
less_turned Less h = cc
less_turned Equal h = cc
less_turned Greater h = refl

less_or_equal : (o : Ordering) → is_gt o ≡ false → o ≢ Equal → is_lt o ≡ true
less_or_equal Less h d = refl
less_or_equal Equal h d = absurd (d refl)
less_or_equal Greater h d = cc

less_is : (o : Ordering) → is_lt o ≡ true → o ≡ Less
less_is Less h = refl
less_is Equal h = cc
less_is Greater h = cc

module _ {A : Type 0} (key : A → Val) where
  abbrev pub keyed : A → Keyed A
  keyed x = record { keys = Some (key x) ∷ []; value = x }

  -- elements with their keys
  abbrev pub all_keyed : List A → List (Keyed A)
  all_keyed [] = []
  all_keyed (x ∷ more) = keyed x ∷ all_keyed more

  abbrev pub earlier : A → A → Bool
  earlier x y = is_lt (val_cmp (key x) (key y))

  abbrev behind : A → A → Bool
  behind x y = is_gt (val_cmp (key x) (key y))

  -- an element in its place among others, which stand in order
  abbrev put : A → List A → List A
  put x [] = x ∷ []
  put x (y ∷ more) = cond (behind x y) (y ∷ put x more) (x ∷ y ∷ more)

  -- elements in order of their keys
  abbrev pub sorted : List A → List A
  sorted [] = []
  sorted (x ∷ more) = put x (sorted more)

  behind_is : (x y : A) → is_behind by_name (keyed x) (keyed y) ≡ behind x y
  behind_is x y = ap is_gt (then_equal (val_cmp (key x) (key y)))

  placed_is : (x : A) (xs : List A) → placed by_name (keyed x) (all_keyed xs) ≡ all_keyed (put x xs)
  placed_is x [] = refl
  placed_is x (y ∷ more) =
      ap (λ b. cond b (keyed y ∷ placed by_name (keyed x) (all_keyed more)) (keyed x ∷ keyed y ∷ all_keyed more)) (behind_is x y)
      ∙ by_test (placed_is x more) (behind x y)
    where
      by_test : placed by_name (keyed x) (all_keyed more) ≡ all_keyed (put x more) → (b : Bool)
          → cond b (keyed y ∷ placed by_name (keyed x) (all_keyed more)) (keyed x ∷ keyed y ∷ all_keyed more) ≡ all_keyed (cond b (y ∷ put x more) (x ∷ y ∷ more))
      by_test is true = ap (λ l. keyed y ∷ l) is
      by_test is false = refl

  order_is : (xs : List A) → in_order by_name (all_keyed xs) ≡ all_keyed (sorted xs)
  order_is [] = refl
  order_is (x ∷ more) = ap (placed by_name (keyed x)) (order_is more) ∙ placed_is x (sorted more)

  keyless_is : (xs : List A) → keyless (all_keyed xs) ≡ xs
  keyless_is [] = refl
  keyless_is (x ∷ more) = ap (λ l. x ∷ l) (keyless_is more)

  pub sorted_is : (xs : List A) → keyless (in_order by_name (all_keyed xs)) ≡ sorted xs
  sorted_is xs = ap keyless (order_is xs) ∙ keyless_is (sorted xs)

  -- ---- a sort keeps the elements

  each_put : (P : A → Type 0) (x : A) (xs : List A) → P x → Each P xs → Each P (put x xs)
  each_put P x [] h hs = (h, tt)
  each_put P x (y ∷ more) h hs = by_test (each_put P x more h hs.1) (behind x y)
    where
      by_test : Each P (put x more) → (b : Bool) → Each P (cond b (y ∷ put x more) (x ∷ y ∷ more))
      by_test is true = (hs.0, is)
      by_test is false = (h, hs)

  pub each_sorted : (P : A → Type 0) (xs : List A) → Each P xs → Each P (sorted xs)
  each_sorted P [] h = tt
  each_sorted P (x ∷ more) h = each_put P x (sorted more) h.0 (each_sorted P more h.1)

  length_put : (x : A) (xs : List A) → length (put x xs) ≡ suc (length xs)
  length_put x [] = refl
  length_put x (y ∷ more) = by_test (length_put x more) (behind x y)
    where
      by_test : length (put x more) ≡ suc (length more) → (b : Bool) → length (cond b (y ∷ put x more) (x ∷ y ∷ more)) ≡ suc (suc (length more))
      by_test is true = ap suc is
      by_test is false = refl

  pub length_sorted : (xs : List A) → length (sorted xs) ≡ length xs
  length_sorted [] = refl
  length_sorted (x ∷ more) = length_put x (sorted more) ∙ ap suc (length_sorted more)

  any_put : (test : A → Bool) (x : A) (xs : List A) → list_any test (put x xs) ≡ (test x || list_any test xs)
  any_put test x [] = refl
  any_put test x (y ∷ more) = by_test (any_put test x more) (behind x y)
    where
      either : (a b c : Bool) → (b || (a || c)) ≡ (a || (b || c))
      either true true c = refl
      either true false c = refl
      either false b c = refl

      by_test : list_any test (put x more) ≡ (test x || list_any test more) → (b : Bool)
          → list_any test (cond b (y ∷ put x more) (x ∷ y ∷ more)) ≡ (test x || (test y || list_any test more))
      by_test is true = ap (λ b. test y || b) is ∙ either (test x) (test y) (list_any test more)
      by_test is false = refl

  pub any_sorted : (test : A → Bool) (xs : List A) → list_any test (sorted xs) ≡ list_any test xs
  any_sorted test [] = refl
  any_sorted test (x ∷ more) = any_put test x (sorted more) ∙ ap (λ b. test x || b) (any_sorted test more)

  -- ---- where keys differ, it ascends

  -- no two elements have one key
  abbrev pub KeysDiffer : List A → Type 0
  KeysDiffer [] = Unit {0}
  KeysDiffer (x ∷ more) = Each (λ y. key x ≢ key y) more × KeysDiffer more

  behind_earlier : (x y : A) → behind x y ≡ true → earlier y x ≡ true
  behind_earlier x y h = ap is_lt (values_ordered.0.antisymm (key y) (key x)) ∙ less_turned (val_cmp (key x) (key y)) h

  not_behind : (x y : A) → behind x y ≡ false → key x ≢ key y → earlier x y ≡ true
  not_behind x y h d = less_or_equal (val_cmp (key x) (key y)) h (λ e. d ((values_ordered.1 (key x) (key y)).0 e))

  earlier_through : (x y z : A) → earlier x y ≡ true → earlier y z ≡ true → earlier x z ≡ true
  earlier_through x y z h g =
      ap is_lt (values_ordered.0.trans (key x) (key y) (key z) (less_is (val_cmp (key x) (key y)) h) (less_is (val_cmp (key y) (key z)) g))

  ascend_put : (x : A) (xs : List A) → Each (λ y. key x ≢ key y) xs → Ascend earlier xs → Ascend earlier (put x xs)
  ascend_put x [] d up = (tt, tt)
  ascend_put x (y ∷ more) d up = by_test (ascend_put x more d.1 up.1) (behind x y) refl
    where
      by_test : Ascend earlier (put x more) → (b : Bool) → behind x y ≡ b → Ascend earlier (cond b (y ∷ put x more) (x ∷ y ∷ more))
      by_test is true e = (each_put (λ z. earlier y z ≡ true) x more (behind_earlier x y e) up.0, is)
      by_test is false e =
          let first : earlier x y ≡ true = not_behind x y e d.0 in
          ((first, each_more (λ z. earlier y z ≡ true) (λ z. earlier x z ≡ true) (λ z h. earlier_through x y z first h) more up.0), up)

  pub ascend_sorted : (xs : List A) → KeysDiffer xs → Ascend earlier (sorted xs)
  ascend_sorted [] d = tt
  ascend_sorted (x ∷ more) d = ascend_put x (sorted more) (each_sorted (λ y. key x ≢ key y) more d.0) (ascend_sorted more d.1)
