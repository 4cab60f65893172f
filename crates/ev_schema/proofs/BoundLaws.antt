-- What becomes of pointers where one of them is put anew within other bounds.
use Rattle.std.proofs.Common.{◌≡◌, ◌≢◌, ℕ, zero, suc, List, [], ◌∷◌, Option, Some, None, slice_get, slice_set, refl, sym, ap}
use Rattle.core_ir.specs.declared.card.Card.{Card}
use Rattle.core_ir.specs.declared.path.PtrId.{PtrId}
use Rattle.ev_schema.specs.Facts.{bounded, with_bounded, ComputedIsBounded}
use Rattle.ev_schema.specs.declared.pointer.PtrInfo.{PtrInfo}

set_same : {A : Type 0} (xs : List A) (i : ℕ) (a x : A) → slice_get (slice_set xs i a) i ≡ Some x → a ≡ x
set_same [] i a x e = absurd (cc)
set_same (y ∷ ys) zero a x e = cc
set_same (y ∷ ys) (suc i) a x e = set_same ys i a x e

set_other : {A : Type 0} (xs : List A) (i j : ℕ) (a : A) → j ≢ i → slice_get (slice_set xs i a) j ≡ slice_get xs j
set_other [] i j a apart = refl
set_other (y ∷ ys) zero zero a apart = absurd (apart refl)
set_other (y ∷ ys) zero (suc j) a apart = refl
set_other (y ∷ ys) (suc i) zero a apart = refl
set_other (y ∷ ys) (suc i) (suc j) a apart = set_other ys i j a (λ e. apart (ap suc e))

own_bounds : (ps : List PtrInfo) (p : PtrId) (c : Card) (o : Option PtrInfo) (info : PtrInfo) → slice_get ps p.0 ≡ o → slice_get (with_bounded ps p c o) p.0 ≡ Some info → info.card ≡ c
own_bounds ps p c None info is e = absurd (cc)
own_bounds ps p c (Some old) info is e = ap (λ (i : PtrInfo). i.card) (sym (set_same ps p.0 (bounded c old) info e))

other_bounds : (ps : List PtrInfo) (p q : PtrId) (c : Card) (o : Option PtrInfo) → q.0 ≢ p.0 → slice_get (with_bounded ps p c o) q.0 ≡ slice_get ps q.0
other_bounds ps p q c None apart = refl
other_bounds ps p q c (Some old) apart = set_other ps p.0 q.0 (bounded c old) apart

pub computed_bounds : ComputedIsBounded
computed_bounds = record {
  own = λ c s info e. own_bounds s.pointers c.pointer c.card (slice_get s.pointers c.pointer.0) info refl e;
  others = λ c s p apart. other_bounds s.pointers c.pointer p c.card (slice_get s.pointers c.pointer.0) apart;
}
