-- Where no value stands twice, the objects' values are apart.
use Rattle.std.proofs.Common.{◌≡◌, ℕ, suc, ◌==◌, nat_lt, ◌&&◌, ◌||◌, Bool, true, false, List, [], ◌∷◌, Option, Some, None, slice_get, cond, refl, sym, ap, subst}
use Rattle.std.proofs.lemmas.Bool.{eqb-true, eq-eqb}
use Rattle.std.specs.List.{list_any}
use Rattle.core_ir.specs.declared.path.PtrId.{PtrId}
use Rattle.ev_list.specs.Occurrence.{has_repeat}
use Rattle.ev_schema.specs.declared.pointer.PtrInfo.{PtrInfo}
use Rattle.ev_value.specs.declared.value.Val.{Val}
use Rattle.db_draft.specs.First.{when}
use Rattle.db_store.specs.Fits.{Each}
use Rattle.db_store.specs.Limits.{same}
use Rattle.db_store.specs.Objects.{items_at}
use Rattle.db_store.specs.declared.object.Object.{Object}
use Rattle.db_check.specs.Exclusive.{Holding, held_too, held_with, lesser, repeated, is_exclusive_pointer, exclusive_items, held_after, clash, pointers_at, told_clash, exclusive_from}
use Rattle.db_check.proofs.IdOrder.{each_more}
use Rattle.db_check.proofs.NoFlaw.{neither_of, not_when, no_either}
use Rattle.db_check.proofs.Repeats.{Apart, Single}

-- ---- who holds a value goes on to hold it

-- whoever holds nothing later held nothing before
abbrev Grows : Holding → Holding → Type 0
Grows held later = (q : PtrId) (w : Val) → later q w ≡ None → held q w ≡ None

grows_too : (held : Holding) (p : PtrId) (v : Val) (n : ℕ) → Grows held (held_too held p v n)
grows_too held p v n q w e = (neither_of (held q w) (when (p.0 == q.0 && same v w) n) e).0

grows_with : (held : Holding) (n : ℕ) (p : PtrId) (vs : List Val) → Grows held (held_with held n p vs)
grows_with held n p [] q w e = e
grows_with held n p (v ∷ more) q w e = grows_too held p v n q w (grows_with (held_too held p v n) n p more q w e)

second_false : (a b : Bool) → a ≡ true → (a && b) ≡ false → b ≡ false
second_false true b h e = e
second_false false b h e = cc

-- a value that nobody holds once another is held is not the same
other_too : (held : Holding) (p : PtrId) (v w : Val) (n : ℕ) → held_too held p v n p w ≡ None → same v w ≡ false
other_too held p v w n e =
    second_false (p.0 == p.0) (same v w) (eq-eqb p.0 p.0 refl) (not_when (p.0 == p.0 && same v w) n (neither_of (held p w) (when (p.0 == p.0 && same v w) n) e).1)

other_with : (held : Holding) (n : ℕ) (p : PtrId) (vs : List Val) (w : Val) → held_with held n p vs p w ≡ None → Each (λ v. same v w ≡ false) vs
other_with held n p [] w e = tt
other_with held n p (v ∷ more) w e =
    (other_too held p v w n (grows_with (held_too held p v n) n p more p w e), other_with (held_too held p v n) n p more w e)

-- ---- the values of one pointer

lesser_none : (a b : Option ℕ) → lesser a b ≡ None → (a ≡ None) × (b ≡ None)
lesser_none None b e = (refl, e)
lesser_none (Some m) None e = absurd (cc)
lesser_none (Some m) (Some n) e = by_test (nat_lt n m) e
  where
    by_test : (b : Bool) → cond b (Some n) (Some m) ≡ None → (Some m ≡ None) × (Some n ≡ None)
    by_test true e = absurd (cc)
    by_test false e = absurd (cc)

-- nobody held any of them, and none stands twice
abbrev Free : Holding → PtrId → List Val → Type 0
Free held p vs = Each (λ v. held p v ≡ None) vs × (has_repeat same vs ≡ false)

none_later : (held : Holding) (n : ℕ) (p : PtrId) (v : Val) (vs : List Val) → Each (λ w. held_too held p v n p w ≡ None) vs → list_any (same v) vs ≡ false
none_later held n p v [] h = refl
none_later held n p v (w ∷ more) h = no_either (same v w) (list_any (same v) more) (other_too held p v w n h.0) (none_later held n p v more h.1)

repeated_free : (found : Option ℕ) (held : Holding) (n : ℕ) (p : PtrId) (vs : List Val) → repeated found held n p vs ≡ None → (found ≡ None) × Free held p vs
repeated_free found held n p [] e = (e, (tt, refl))
repeated_free found held n p (v ∷ more) e =
    let later = repeated_free (lesser found (held p v)) (held_too held p v n) n p more e in
    let both = lesser_none found (held p v) later.0 in (
      both.0,
      (
        (both.1, each_more (λ w. held_too held p v n p w ≡ None) (λ w. held p w ≡ None) (λ w h. grows_too held p v n p w h) more later.1.0),
        no_either (list_any (same v) more) (has_repeat same more) (none_later held n p v more later.1.0) later.1.1,
      ),
    )

-- ---- the pointers of one object

-- whether a pointer is among some
abbrev pub is_listed : PtrId → List PtrId → Bool
is_listed p [] = false
is_listed p (q ∷ more) = q.0 == p.0 || is_listed p more

module _ (infos : List PtrInfo) (p : PtrId) (is : is_exclusive_pointer infos p ≡ true) where
  items_are : (o : Object) → exclusive_items infos o p ≡ items_at o p
  items_are o = ap (λ b. cond b (items_at o p) []) is

  grows_after : (held : Holding) (n : ℕ) (o : Object) (listed : List PtrId) → Grows held (held_after infos held n o listed)
  grows_after held n o [] q w e = e
  grows_after held n o (r ∷ more) q w e =
      grows_with held n r (exclusive_items infos o r) q w (grows_after (held_with held n r (exclusive_items infos o r)) n o more q w e)

  -- nobody held the object's values, none of them stands twice, and whoever holds nothing later has none of them
  abbrev ObjectFree : Holding → Holding → List Val → Type 0
  ObjectFree held later vs = Free held p vs × ((w : Val) → later p w ≡ None → Each (λ v. same v w ≡ false) vs)

  same_pointer : (q : PtrId) → (q.0 == p.0) ≡ true → q ≡ p
  same_pointer q e = let number : q.0 ≡ p.0 = eqb-true q.0 p.0 e in λ i. record { 0 = number i }

  here : (held : Holding) (n : ℕ) (o : Object) (more : List PtrId) → repeated None held n p (exclusive_items infos o p) ≡ None → ObjectFree held (held_after infos held n o (p ∷ more)) (items_at o p)
  here held n o more e =
      subst (λ vs. ObjectFree held (held_after infos held n o (p ∷ more)) vs) (items_are o) (
        (repeated_free None held n p (exclusive_items infos o p) e).1,
        (λ w h. other_with held n p (exclusive_items infos o p) w (grows_after (held_with held n p (exclusive_items infos o p)) n o more p w h)),
      )

  clash_free : (held : Holding) (n : ℕ) (o : Object) (listed : List PtrId) → is_listed p listed ≡ true → clash infos held n o listed ≡ None → ObjectFree held (held_after infos held n o listed) (items_at o p)
  clash_free held n o [] m e = absurd (cc)
  clash_free held n o (q ∷ more) m e = by_test (λ h. clash_free (held_with held n q (exclusive_items infos o q)) n o more h both.1) (q.0 == p.0) refl m
    where
      both : (repeated None held n q (exclusive_items infos o q) ≡ None) × (clash infos (held_with held n q (exclusive_items infos o q)) n o more ≡ None)
      both = neither_of (repeated None held n q (exclusive_items infos o q)) (clash infos (held_with held n q (exclusive_items infos o q)) n o more) e

      by_test : (is_listed p more ≡ true → ObjectFree (held_with held n q (exclusive_items infos o q)) (held_after infos (held_with held n q (exclusive_items infos o q)) n o more) (items_at o p))
          → (b : Bool) → (q.0 == p.0) ≡ b → (b || is_listed p more) ≡ true → ObjectFree held (held_after infos held n o (q ∷ more)) (items_at o p)
      by_test later true t h =
          subst (λ r. ObjectFree held (held_after infos held n o (r ∷ more)) (items_at o p)) (sym (same_pointer q t))
          (here held n o more (subst (λ r. repeated None held n r (exclusive_items infos o r) ≡ None) (same_pointer q t) both.0))
      by_test later false t h =
          let l = later h in
          ((each_more (λ v. held_with held n q (exclusive_items infos o q) p v ≡ None) (λ v. held p v ≡ None) (λ v g. grows_with held n q (exclusive_items infos o q) p v g) (items_at o p) l.0.0, l.0.1), l.1)

  -- ---- objects

  module _ (orders : List (List PtrId)) where
    -- an object has values for listed pointers alone
    abbrev pub Lists : Object → Type 0
    Lists o = is_listed p (pointers_at (slice_get orders o.ty.0)) ≡ false → items_at o p ≡ []

    object_free : (held : Holding) (n : ℕ) (o : Object) → Lists o → clash infos held n o (pointers_at (slice_get orders o.ty.0)) ≡ None
        → ObjectFree held (held_after infos held n o (pointers_at (slice_get orders o.ty.0))) (items_at o p)
    object_free held n o lists e = by_test (is_listed p (pointers_at (slice_get orders o.ty.0))) refl
      where
        by_test : (b : Bool) → is_listed p (pointers_at (slice_get orders o.ty.0)) ≡ b → ObjectFree held (held_after infos held n o (pointers_at (slice_get orders o.ty.0))) (items_at o p)
        by_test true t = clash_free held n o (pointers_at (slice_get orders o.ty.0)) t e
        by_test false t =
            subst (λ vs. ObjectFree held (held_after infos held n o (pointers_at (slice_get orders o.ty.0))) vs) (sym (lists t)) ((tt, refl), (λ w h. tt))

    told_none : (n : ℕ) (o : Option ℕ) → told_clash n o ≡ None → o ≡ None
    told_none n None e = refl
    told_none n (Some m) e = cc

    single_from : (held : Holding) (n : ℕ) (os : List Object) → Each Lists os → exclusive_from infos orders held n os ≡ None
        → Each (λ o. Each (λ v. held p v ≡ None) (items_at o p)) os × Single (λ o. items_at o p) os
    single_from held n [] l e = (tt, tt)
    single_from held n (o ∷ more) l e =
        let listed = pointers_at (slice_get orders o.ty.0) in
        let both = neither_of (told_clash n (clash infos held n o listed)) (exclusive_from infos orders (held_after infos held n o listed) (suc n) more) e in
        let free = object_free held n o l.0 (told_none n (clash infos held n o listed) both.0) in
        let later = single_from (held_after infos held n o listed) (suc n) more l.1 both.1 in (
          (
            free.0.0,
            each_more (λ q. Each (λ v. held_after infos held n o listed p v ≡ None) (items_at q p)) (λ q. Each (λ v. held p v ≡ None) (items_at q p))
                (λ q h. each_more (λ v. held_after infos held n o listed p v ≡ None) (λ v. held p v ≡ None) (λ v g. grows_after held n o listed p v g) (items_at q p) h) more later.0,
          ),
          (
            free.0.1,
            each_more (λ q. Each (λ v. held_after infos held n o listed p v ≡ None) (items_at q p)) (λ q. Apart (items_at o p) (items_at q p))
                (λ q h. each_more (λ v. held_after infos held n o listed p v ≡ None) (λ w. Each (λ v. same v w ≡ false) (items_at o p)) (λ w g. free.1 w g) (items_at q p) h) more later.0,
            later.1,
          ),
        )

    pub single_of : (held : Holding) (n : ℕ) (os : List Object) → Each Lists os → exclusive_from infos orders held n os ≡ None → Single (λ o. items_at o p) os
    single_of held n os l e = (single_from held n os l e).1
