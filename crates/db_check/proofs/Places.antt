-- The places of the objects of a type.
use Rattle.std.proofs.Common.{◌≡◌, ℕ, suc, zero, ◌<◌, ◌≤◌, ◌==◌, Bool, true, false, List, [], ◌∷◌, ◌++◌, length, map, filter, cond, Some, slice_get, refl, sym, ap, subst, ◌∙◌, append_assoc, length-append, arith}
use Rattle.std.proofs.lemmas.Bool.Decides.{nat_tests}
use Rattle.std.proofs.lemmas.Option.{slice_get_past}
use Rattle.core_ir.specs.declared.path.TypeId.{TypeId}
use Rattle.ev_schema.specs.Types.{is_subtype}
use Rattle.ev_schema.specs.declared.types.TypeInfo.{TypeInfo}
use Rattle.db_store.specs.declared.object.Object.{Object}
use Rattle.db_check.specs.Extent.{extent_from, extent_places, extents_of, AreExtentPlaces}
use Rattle.db_check.specs.Store.{StoreView, kept_if_known, kept_places, IsOver}

-- what stands behind a list stands at the list's length
pub at_length : {A : Type 0} (xs ys : List A) (x : A) → slice_get (xs ++ x ∷ ys) (length xs) ≡ Some x
at_length [] ys x = refl
at_length (y ∷ xs) ys x = at_length xs ys x

module _ (types : List TypeInfo) (t : TypeId) where
  abbrev kept : Object → Bool
  kept o = is_subtype types o.ty t

  -- the places of those behind some are theirs among all
  places_from : (front os : List Object) → map (slice_get (front ++ os)) (extent_from types t (length front) os) ≡ map Some (filter kept os)
  places_from front [] = refl
  places_from front (o ∷ more) = by_test (kept o) (sym (λ i. map (slice_get (all i)) (extent_from types t (next i) more)) ∙ places_from (front ++ o ∷ []) more)
    where
      all : (front ++ o ∷ []) ++ more ≡ front ++ o ∷ more
      all = append_assoc front (o ∷ []) more

      next : length (front ++ o ∷ []) ≡ suc (length front)
      next = omega (arith, length-append front (o ∷ []))

      by_test : (b : Bool) → map (slice_get (front ++ o ∷ more)) (extent_from types t (suc (length front)) more) ≡ map Some (filter kept more)
          → map (slice_get (front ++ o ∷ more)) (cond b (length front ∷ extent_from types t (suc (length front)) more) (extent_from types t (suc (length front)) more)) ≡ map Some (cond b (o ∷ filter kept more) (filter kept more))
      by_test true is = λ i. at_length front more o i ∷ is i
      by_test false is = is

  pub are_places : (os : List Object) (places : List ℕ) → places ≡ extent_places types t os → AreExtentPlaces types t os places
  are_places os places e = ap (map (slice_get os)) e ∙ places_from [] os

-- ---- the places that are kept for each type

-- what stands in the front part stands there in the whole
in_front : {A : Type 0} (xs ys : List A) (k : ℕ) (x : A) → slice_get xs k ≡ Some x → slice_get (xs ++ ys) k ≡ Some x
in_front [] ys k x e = absurd (cc)
in_front (y ∷ xs) ys zero x e = e
in_front (y ∷ xs) ys (suc k) x e = in_front xs ys k x e

module _ (types : List TypeInfo) (os : List Object) where
  -- the places of one type, by its number
  abbrev places_of : ℕ → List ℕ
  places_of k = extent_places types (record { 0 = k }) os

  pub length_extents : (n : ℕ) → length (extents_of types os n) ≡ n
  length_extents zero = refl
  length_extents (suc n) = omega (arith, length-append (extents_of types os n) (places_of n ∷ []), length_extents n)

  at_last : (n k : ℕ) → k ≡ n → slice_get (extents_of types os n ++ places_of n ∷ []) k ≡ Some (places_of k)
  at_last n k same =
      subst (λ i. slice_get (extents_of types os n ++ places_of n ∷ []) i ≡ Some (places_of n)) (length_extents n ∙ sym same) (at_length (extents_of types os n) [] (places_of n))
      ∙ ap (λ i. Some (places_of i)) (sym same)

  pub extents_at : (n k : ℕ) → k < n → slice_get (extents_of types os n) k ≡ Some (places_of k)
  extents_at zero k lt = absurd (omega (arith, lt))
  extents_at (suc n) k lt = by_test (extents_at n k) (k == n) refl
    where
      by_test : (k < n → slice_get (extents_of types os n) k ≡ Some (places_of k)) → (b : Bool) → (k == n) ≡ b → slice_get (extents_of types os n ++ places_of n ∷ []) k ≡ Some (places_of k)
      by_test earlier true e = let same : k ≡ n = grind (arith, nat_tests) in at_last n k same
      by_test earlier false e = let less : k < n = grind (arith, nat_tests, lt) in in_front (extents_of types os n) (places_of n ∷ []) k (places_of k) (earlier less)

-- of any other type no places are kept
pub none_kept : (types : List TypeInfo) (st : StoreView) (t : TypeId) → IsOver types st → length types ≤ t.0 → kept_places st t ≡ []
none_kept types st t over unknown =
    let past : length (extents_of types st.objects (length types)) ≤ t.0 = omega (arith, unknown, length_extents types st.objects (length types)) in
    ap (λ l. kept_if_known (slice_get l t.0)) over ∙ ap kept_if_known (slice_get_past (extents_of types st.objects (length types)) t.0 past)

-- the places that a store over some types keeps for one of them are its extent
pub kept_is : (types : List TypeInfo) (st : StoreView) (t : TypeId) → IsOver types st → t.0 < length types → kept_places st t ≡ extent_places types t st.objects
kept_is types st t over known =
    ap (λ l. kept_if_known (slice_get l t.0)) over ∙ ap kept_if_known (extents_at types st.objects (length types) t.0 known)
