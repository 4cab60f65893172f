-- One more object's place, put under its type and under those that it extends, makes the places of one more object.
use Rattle.std.proofs.Common.{◌≡◌, ◌≢◌, ℕ, zero, suc, ◌+◌, ◌-◌, ◌<◌, ◌==◌, ◌||◌, Bool, true, false, cond, List, [], ◌∷◌, ◌++◌, length, Option, Some, None, slice_get, slice_set, eq-eqb, refl, sym, ap, ◌∙◌, length-append, arith}
use Rattle.std.specs.List.{list_any}
use Rattle.std.proofs.lemmas.Bool.Decides.{nat_tests}
use Rattle.std.proofs.lemmas.List.{length-set}
use Rattle.core_ir.specs.declared.path.TypeId.{TypeId}
use Rattle.ev_schema.specs.Types.{is_subtype, same_type, ancestors}
use Rattle.ev_schema.specs.declared.types.TypeInfo.{TypeInfo}
use Rattle.db_store.specs.declared.object.Object.{Object}
use Rattle.db_check.specs.Extent.{extent_from, extent_places, extents}
use Rattle.db_check.specs.Placing.{is_place, is_last_place, with_place_behind, with_place, with_places, with_object}
use Rattle.db_check.proofs.Places.{at_length, length_extents, extents_at}

-- ---- lists by their elements

-- lists with the same element at each place are one
same_lists : {A : Type 0} (xs ys : List A) → length xs ≡ length ys → ((k : ℕ) → k < length xs → slice_get xs k ≡ slice_get ys k) → xs ≡ ys
same_lists [] [] e each = refl
same_lists [] (y ∷ ys) e each = absurd (omega (arith, e))
same_lists (x ∷ xs) [] e each = absurd (omega (arith, e))
same_lists (x ∷ xs) (y ∷ ys) e each =
    let first : Some x ≡ Some y = each 0 (omega arith) in
    let more = same_lists xs ys (omega (arith, e)) (λ k lt. each (suc k) (omega (arith, lt))) in
    cc

set_here : {A : Type 0} (xs : List A) (k : ℕ) (x y : A) → slice_get xs k ≡ Some x → slice_get (slice_set xs k y) k ≡ Some y
set_here [] k x y e = absurd (cc)
set_here (z ∷ xs) zero x y e = refl
set_here (z ∷ xs) (suc k) x y e = set_here xs k x y e

set_there : {A : Type 0} (xs : List A) (j k : ℕ) (y : A) → j ≢ k → slice_get (slice_set xs j y) k ≡ slice_get xs k
set_there [] j k y d = refl
set_there (z ∷ xs) zero zero y d = absurd (d refl)
set_there (z ∷ xs) zero (suc k) y d = refl
set_there (z ∷ xs) (suc j) zero y d = refl
set_there (z ∷ xs) (suc j) (suc k) y d = set_there xs j k y (λ e. d (ap suc e))

-- ---- a place behind others

-- some places, with one more behind them where it is told so
abbrev put : ℕ → Bool → List ℕ → List ℕ
put place b places = cond b (places ++ place ∷ []) places

is_last_behind : (place : ℕ) (places : List ℕ) → is_last_place place (places ++ place ∷ []) ≡ true
is_last_behind place places = ap (is_place place) there ∙ eq-eqb place place refl
  where
    last : length (places ++ place ∷ []) - 1 ≡ length places
    last = omega (arith, length-append places (place ∷ []))

    there : slice_get (places ++ place ∷ []) (length (places ++ place ∷ []) - 1) ≡ Some place
    there = ap (slice_get (places ++ place ∷ [])) last ∙ at_length places [] place

module _ (place : ℕ) (t : TypeId) (lists : List (List ℕ)) where
  -- the same number of types has places
  same_length : (o : Option (List ℕ)) → length (with_place_behind place lists t o) ≡ length lists
  same_length None = refl
  same_length (Some places) = by_test (is_last_place place places)
    where
      by_test : (b : Bool) → length (cond b lists (slice_set lists t.0 (places ++ place ∷ []))) ≡ length lists
      by_test true = refl
      by_test false = length-set lists t.0 (places ++ place ∷ [])

  -- another type's places stay
  stay : (k : ℕ) → t.0 ≢ k → (o : Option (List ℕ)) → slice_get (with_place_behind place lists t o) k ≡ slice_get lists k
  stay k other None = refl
  stay k other (Some places) = by_test (is_last_place place places)
    where
      by_test : (b : Bool) → slice_get (cond b lists (slice_set lists t.0 (places ++ place ∷ []))) k ≡ slice_get lists k
      by_test true = refl
      by_test false = set_there lists t.0 k (places ++ place ∷ []) other

  -- the type's own have the place behind them, put there now or before
  grow : (places : List ℕ) → is_last_place place places ≡ false → (b : Bool) → slice_get lists t.0 ≡ Some (put place b places)
      → slice_get (with_place place lists t) t.0 ≡ Some (places ++ place ∷ [])
  grow places new true e =
      ap (λ o. slice_get (with_place_behind place lists t o) t.0) e
      ∙ ap (λ b. slice_get (cond b lists (slice_set lists t.0 ((places ++ place ∷ []) ++ place ∷ []))) t.0) (is_last_behind place places)
      ∙ e
  grow places new false e =
      ap (λ o. slice_get (with_place_behind place lists t o) t.0) e
      ∙ ap (λ b. slice_get (cond b lists (slice_set lists t.0 (places ++ place ∷ []))) t.0) new
      ∙ set_here lists t.0 places (places ++ place ∷ []) e

-- ---- one object's place under several types

module _ (place : ℕ) (k : ℕ) (places : List ℕ) (new : is_last_place place places ≡ false) where
  true_after : (b : Bool) → b || true ≡ true
  true_after true = refl
  true_after false = refl

  false_after : (b : Bool) → b || false ≡ b
  false_after true = refl
  false_after false = refl

  or_assoc : (a b c : Bool) → (a || b) || c ≡ a || (b || c)
  or_assoc true b c = refl
  or_assoc false b c = refl

  -- under one type
  put_once : (lists : List (List ℕ)) (t : TypeId) (b same : Bool) → same ≡ (k == t.0) → slice_get lists k ≡ Some (put place b places)
      → slice_get (with_place place lists t) k ≡ Some (put place (b || same) places)
  put_once lists t b true tells is =
      let here : k ≡ t.0 = grind (arith, nat_tests) in
      ap (slice_get (with_place place lists t)) here
      ∙ grow place t lists places new b (ap (slice_get lists) (sym here) ∙ is)
      ∙ ap (λ b. Some (put place b places)) (sym (true_after b))
  put_once lists t b false tells is =
      let there : t.0 ≢ k = grind (arith, nat_tests) in
      stay place t lists k there (slice_get lists t.0) ∙ is ∙ ap (λ b. Some (put place b places)) (sym (false_after b))

  -- under each of some types
  put_each : (ts : List TypeId) (lists : List (List ℕ)) (b : Bool) → slice_get lists k ≡ Some (put place b places)
      → slice_get (with_places place lists ts) k ≡ Some (put place (b || list_any (same_type (record { 0 = k })) ts) places)
  put_each [] lists b is = is ∙ ap (λ b. Some (put place b places)) (sym (false_after b))
  put_each (t ∷ more) lists b is =
      put_each more (with_place place lists t) (b || (k == t.0)) (put_once lists t b (k == t.0) refl is)
      ∙ ap (λ b. Some (put place b places)) (or_assoc b (k == t.0) (list_any (same_type (record { 0 = k })) more))

same_number : (place : ℕ) (ts : List TypeId) (lists : List (List ℕ)) → length (with_places place lists ts) ≡ length lists
same_number place [] lists = refl
same_number place (t ∷ more) lists = same_number place more (with_place place lists t) ∙ same_length place t lists (slice_get lists t.0)

-- ---- the places of one more object

module _ (types : List TypeInfo) (t : TypeId) where
  -- places are below the number of objects
  below : (k : ℕ) (os : List Object) (j q : ℕ) → slice_get (extent_from types t k os) j ≡ Some q → q < k + length os
  below k [] j q e = absurd (cc)
  below k (o ∷ more) j q e = by_test (below (suc k) more) (is_subtype types o.ty t) j e
    where
      by_test : ((j q : ℕ) → slice_get (extent_from types t (suc k) more) j ≡ Some q → q < suc k + length more)
          → (b : Bool) (j : ℕ) → slice_get (cond b (k ∷ extent_from types t (suc k) more) (extent_from types t (suc k) more)) j ≡ Some q → q < k + suc (length more)
      by_test behind true zero e = let same : k ≡ q = cc in omega (arith, same)
      by_test behind true (suc j) e = let less = behind j q e in omega (arith, less)
      by_test behind false j e = let less = behind j q e in omega (arith, less)

  -- the next object's place is not among them
  not_among : (n : ℕ) (o : Option ℕ) → ((q : ℕ) → o ≡ Some q → q < 0 + n) → is_place n o ≡ false
  not_among n None less = refl
  not_among n (Some q) less = let lt = less q refl in grind (arith, nat_tests, lt)

  is_new : (os : List Object) → is_last_place (length os) (extent_places types t os) ≡ false
  is_new os = let last = length (extent_places types t os) - 1 in not_among (length os) (slice_get (extent_places types t os) last) (below 0 os last)

  -- one more object has its place behind the others where it is of the type
  one_more : (o : Object) (k n : ℕ) (os : List Object) → n ≡ k + length os
      → extent_from types t k (os ++ o ∷ []) ≡ put n (is_subtype types o.ty t) (extent_from types t k os)
  one_more o k n [] e = ap (λ k. cond (is_subtype types o.ty t) (k ∷ []) []) (omega (arith, e))
  one_more o k n (p ∷ more) e = by_test (is_subtype types p.ty t) (is_subtype types o.ty t) (one_more o (suc k) n more (omega (arith, e)))
    where
      by_test : (b c : Bool) → extent_from types t (suc k) (more ++ o ∷ []) ≡ put n c (extent_from types t (suc k) more)
          → cond b (k ∷ extent_from types t (suc k) (more ++ o ∷ [])) (extent_from types t (suc k) (more ++ o ∷ [])) ≡ put n c (cond b (k ∷ extent_from types t (suc k) more) (extent_from types t (suc k) more))
      by_test true true is = ap (λ l. k ∷ l) is
      by_test true false is = ap (λ l. k ∷ l) is
      by_test false c is = is

module _ (types : List TypeInfo) (os : List Object) (o : Object) where
  abbrev more : List Object
  more = os ++ o ∷ []

  -- the places with this object's under its own type
  abbrev first : List (List ℕ)
  first = with_place (length os) (extents types os) o.ty

  abbrev grown : List (List ℕ)
  grown = with_object types (length os) (extents types os) o

  number : length grown ≡ length types
  number =
      same_number (length os) (ancestors types o.ty) first
      ∙ same_length (length os) o.ty (extents types os) (slice_get (extents types os) o.ty.0)
      ∙ length_extents types os (length types)

  turned : (m n : ℕ) → (m == n) ≡ (n == m)
  turned m n = grind (arith, nat_tests)

  at_type : (k : ℕ) → k < length types → slice_get grown k ≡ slice_get (extents types more) k
  at_type k known =
      let t : TypeId = record { 0 = k } in
      let places = extent_places types t os in
      let new = is_new types t os in
      let own = put_once (length os) k places new (extents types os) o.ty false (same_type o.ty t) (turned o.ty.0 k) (extents_at types os (length types) k known) in
      put_each (length os) k places new (ancestors types o.ty) first (same_type o.ty t) own
      ∙ ap Some (sym (one_more types t o 0 (length os) os (omega arith)))
      ∙ sym (extents_at types more (length types) k known)

  -- the places of each type with those of one more object
  pub placed_is : with_object types (length os) (extents types os) o ≡ extents types (os ++ o ∷ [])
  placed_is = same_lists grown (extents types more) (number ∙ sym (length_extents types more (length types))) (λ k within. at_type k (omega (arith, number, within)))
