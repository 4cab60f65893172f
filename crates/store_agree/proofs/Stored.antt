-- What is stored of objects that fit.
use Rattle.std.proofs.Common.{◌≡◌, ℕ, ◌==◌, Bool, true, false, cond, Some, List, [], ◌∷◌, slice_get, refl, subst}
use Rattle.std.proofs.lemmas.Bool.{eqb-true}
use Rattle.ev_value.specs.declared.value.Val.{Val}
use Rattle.ev_value.specs.declared.value.Val as val
use Rattle.core_ir.specs.declared.path.PtrId.{PtrId}
use Rattle.core_ir.specs.declared.path.TypeId.{TypeId}
use Rattle.core_ir.specs.declared.ty.Ty.{Ty}
use Rattle.ev_schema.specs.declared.pointer.PtrInfo.{PtrInfo}
use Rattle.ev_schema.specs.declared.schema.Schema.{Schema}
use Rattle.db_store.specs.declared.object.Entry.{Entry}
use Rattle.db_store.specs.declared.object.Object.{Object}
use Rattle.db_store.specs.declared.object.PtrValue.{PtrValue}
use Rattle.db_store.specs.Fits as fit
use Rattle.db_store.specs.Fits.{Fits, FitsObject, FitsEntry, FitsValue, stored_type}
use Rattle.db_store.specs.Objects.{find, object_of, entry}
use Rattle.eql_agree.specs.Agreeing.{IfThere}

module _ (s : Schema) (os : List Object) where
  -- an object fits
  abbrev pub FitsHere : Object → Type 0
  FitsHere o = FitsObject s (λ info. info.card) os o

  find_fits : (xs : List Object) (id : ℕ) → fit.Each (FitsObject s (λ info. info.card) os) xs → IfThere (FitsObject s (λ info. info.card) os) (find xs id)
  find_fits [] id h = tt
  find_fits (x ∷ xs) id h = at (x.id == id) (find_fits xs id h.1)
    where
      at : (b : Bool) → IfThere (FitsObject s (λ info. info.card) os) (find xs id) → IfThere (FitsObject s (λ info. info.card) os) (cond b (Some x) (find xs id))
      at true r = h.0
      at false r = r

  pub object_fits : Fits s os → (v : Val) → IfThere (FitsObject s (λ info. info.card) os) (object_of os v)
  object_fits fits (val.Obj id) = find_fits os id fits.each
  object_fits fits (val.Int z) = tt
  object_fits fits (val.Str z) = tt
  object_fits fits (val.Bool b) = tt
  object_fits fits (val.Id n) = tt
  object_fits fits (val.Tuple' _ vs) = tt
  object_fits fits (val.Array' _ vs) = tt

  -- what is stored of a pointer is of the pointer's type
  abbrev pub Stored : PtrId → PtrValue → Type 0
  Stored p v = (info : PtrInfo) × (u : Ty) × (slice_get s.pointers p.0 ≡ Some info) × (stored_type info.body ≡ Some u) × FitsValue s os info u v

  pub entry_fits : (t : TypeId) (es : List Entry) (p : PtrId) → fit.Each (FitsEntry s os t) es → IfThere (Stored p) (entry es p)
  entry_fits t [] p h = tt
  entry_fits t (e ∷ es) p h = at (e.pointer.0 == p.0) refl (entry_fits t es p h.1)
    where
      at : (b : Bool) → e.pointer.0 == p.0 ≡ b → IfThere (Stored p) (entry es p) → IfThere (Stored p) (cond b (Some e.value) (entry es p))
      at true q r = let k = h.0.1 in (k.0, k.2.0, subst (λ (n : ℕ). slice_get s.pointers n ≡ Some k.0) (eqb-true e.pointer.0 p.0 q) k.1, k.2.1, k.2.2)
      at false q r = r
