-- Looking for an id among objects in order of id.
use Rattle.std.proofs.Common.{◌≡◌, ◌<◌, ◌≤◌, ◌==◌, ℕ, zero, suc, nat_lt, Bool, true, false, List, [], ◌∷◌, length, get_or, Option, Some, None, slice_get, Result, Ok, Err, cond, eq-eqb, refl, sym, ap, ◌∙◌, arith}
use Rattle.std.specs.List.{HoldsAt, AllWithin}
use Rattle.std.specs.List.Sorted.{IsSearchInRange, IsBinarySearchResult, IsNonDecreasingBy}
use Rattle.std.specs.Ordering.{nat_cmp, ordering_index}
use Rattle.std.specs.declared.cmp.Ordering.TheVariants.{Less, Equal, Greater}
use Rattle.std.proofs.lemmas.Cmp.{ranked}
use Rattle.std.proofs.lemmas.Bool.Decides.{nat_tests}
use Rattle.db_store.specs.Fits.{Each, Ascend}
use Rattle.db_store.specs.Objects.{find}
use Rattle.db_store.specs.declared.object.Object.{Object}
use Rattle.db_check.proofs.IdOrder.{before}

-- what holds of each element holds of that at a place
each_at : (P : Object → Type 0) (os : List Object) (k : ℕ) (d : Object) → Each P os → k < length os → P (get_or os k d)
each_at P [] k d h within = absurd (omega (arith, within))
each_at P (o ∷ more) zero d h within = h.0
each_at P (o ∷ more) (suc k) d h within = each_at P more k d h.1 (omega (arith, within))

ids_rise : (os : List Object) → Ascend before os → (i j : ℕ) (d : Object) → i ≤ j → j < length os → (get_or os i d).id ≤ (get_or os j d).id
ids_rise [] up i j d le lt = absurd (omega (arith, lt))
ids_rise (o ∷ more) up zero zero d le lt = omega arith
ids_rise (o ∷ more) up zero (suc j) d le lt =
    below o.id (get_or more j d).id (each_at (λ p. before o p ≡ true) more j d up.0 (omega (arith, lt)))
  where
    below : (m n : ℕ) → nat_lt m n ≡ true → m ≤ n
    below m n h = grind (arith, nat_tests)
ids_rise (o ∷ more) up (suc i) zero d le lt = absurd (omega (arith, le))
ids_rise (o ∷ more) up (suc i) (suc j) d le lt = ids_rise more up.1 i j d (omega (arith, le)) (omega (arith, lt))

module _ (id : ℕ) where
  -- where an id lies beside that of an object
  abbrev side : Object → ℕ
  side o = ordering_index (nat_cmp o.id id)

  higher : (m n : ℕ) → m ≤ n → ordering_index (nat_cmp m id) ≤ ordering_index (nat_cmp n id)
  higher m n le = grind (arith, nat_tests)

  sides_rise : (os : List Object) → Ascend before os → IsNonDecreasingBy side os
  sides_rise os up i j d le lt = higher (get_or os i d).id (get_or os j d).id (ids_rise os up i j d le lt)

  here : (o : Object) (more : List Object) → o.id ≡ id → find (o ∷ more) id ≡ Some o
  here o more same = by_test (o.id == id) (eq-eqb o.id id same)
    where
      by_test : (b : Bool) → b ≡ true → cond b (Some o) (find more id) ≡ Some o
      by_test true e = refl
      by_test false e = absurd (cc)

  beyond : (o : Object) (more : List Object) → (o.id == id) ≡ false → find (o ∷ more) id ≡ find more id
  beyond o more other = ap (λ b. cond b (Some o) (find more id)) other

  less_differs : (m : ℕ) → m < id → (m == id) ≡ false
  less_differs m lt = grind (arith, nat_tests)

  greater_differs : (m : ℕ) → id < m → (m == id) ≡ false
  greater_differs m lt = grind (arith, nat_tests)

  before_differs : (m n : ℕ) → nat_lt m n ≡ true → n ≡ id → (m == id) ≡ false
  before_differs m n lt is = grind (arith, nat_tests)

  -- the object at a place is found, where it has the id
  found : (os : List Object) (place : ℕ) → Ascend before os → place < length os → HoldsAt (λ (o : Object). nat_cmp o.id id ≡ Equal) os place → find os id ≡ slice_get os place
  found [] place up within e = absurd (omega (arith, within))
  found (o ∷ more) zero up within e = here o more (ranked o.id id Equal (sym (e o)))
  found (o ∷ more) (suc k) up within e =
      let p = get_or more k o in
      beyond o more (before_differs o.id p.id (each_at (λ q. before o q ≡ true) more k o up.0 (omega (arith, within))) (ranked p.id id Equal (sym (e o))))
      ∙ found more k up.1 (omega (arith, within)) e

  -- none is found between lesser and greater ids
  absent : (os : List Object) (place : ℕ) → AllWithin (λ (o : Object). nat_cmp o.id id ≡ Less) os zero place → AllWithin (λ (o : Object). nat_cmp o.id id ≡ Greater) os place (length os) → find os id ≡ None
  absent [] place low high = refl
  absent (o ∷ more) zero low high =
      beyond o more (greater_differs o.id (ranked o.id id Greater (sym (high zero o (omega arith) (omega arith)))))
      ∙ absent more zero (λ k d a b. absurd (omega (arith, b))) (λ k d a b. high (suc k) d (omega arith) (omega (arith, b)))
  absent (o ∷ more) (suc j) low high =
      beyond o more (less_differs o.id (ranked o.id id Less (sym (low zero o (omega arith) (omega arith)))))
      ∙ absent more j (λ k d a b. low (suc k) d (omega arith) (omega (arith, b))) (λ k d a b. high (suc k) d (omega (arith, a)) (omega (arith, b)))

-- the object at the place that a search tells, and none where it tells none
abbrev pub object_at : List Object → Result ℕ ℕ → Option Object
object_at os (Ok place) = slice_get os place
object_at os (Err place) = None

-- a binary search by id tells the object that has it
pub searched : (os : List Object) (id : ℕ) → Ascend before os → (r : Result ℕ ℕ) → IsSearchInRange r (length os) → IsBinarySearchResult (λ (o : Object). nat_cmp o.id id) os r → find os id ≡ object_at os r
searched os id up (Ok place) within is = found id os place up within is
searched os id up (Err place) within is = let parted = is (sides_rise id os up) in absent id os place parted.0 parted.1
