-- The object with an id, among the objects that drafts write and in the store.
use Rattle.std.proofs.Common.{◌≡◌, ◌≢◌, ℕ, suc, ◌==◌, nat_lt, Bool, true, false, List, [], ◌∷◌, length, Option, Some, None, option_map, slice_get, cond, refl, sym, ap, ◌∙◌, arith}
use Rattle.std.proofs.lemmas.Bool.{eqb-true}
use Rattle.core_ir.specs.declared.path.PtrId.{PtrId}
use Rattle.core_ir.specs.declared.path.TypeId.{TypeId}
use Rattle.ev_schema.specs.Types.{is_subtype}
use Rattle.ev_schema.specs.declared.schema.Schema.{Schema}
use Rattle.db_draft.specs.declared.draft.ObjectDraft.{ObjectDraft}
use Rattle.db_store.specs.Fits.{Each}
use Rattle.db_store.specs.Objects.{find}
use Rattle.db_store.specs.declared.object.Object.{Object}
use Rattle.db_ids.specs.Heads.{place_of}
use Rattle.db_ids.specs.declared.heads.Head.{Head}
use Rattle.db_values.specs.Links.{head_at, is_of, leads_to}
use Rattle.db_values.specs.Made.{object_of}
use Rattle.db_check.specs.Check.{objects_of}
use Rattle.db_check.specs.Exclusive.{pointers_at}
use Rattle.db_check.proofs.IdOrder.{put, by_id, IdsDiffer, each_by_id}

-- ---- the order by id finds the same

find_put : (o : Object) (os : List Object) (id : ℕ) → Each (λ (p : Object). o.id ≢ p.id) os → find (put o os) id ≡ cond (o.id == id) (Some o) (find os id)
find_put o [] id d = refl
find_put o (p ∷ more) id d = by_test (find_put o more id d.1) (nat_lt p.id o.id)
  where
    either : (a b : Bool) → (p.id == id) ≡ a → (o.id == id) ≡ b → cond a (Some p) (cond b (Some o) (find more id)) ≡ cond b (Some o) (cond a (Some p) (find more id))
    either true true e f = absurd (d.0 (eqb-true o.id id f ∙ sym (eqb-true p.id id e)))
    either true false e f = refl
    either false true e f = refl
    either false false e f = refl

    by_test : find (put o more) id ≡ cond (o.id == id) (Some o) (find more id) → (b : Bool)
        → find (cond b (p ∷ put o more) (o ∷ p ∷ more)) id ≡ cond (o.id == id) (Some o) (cond (p.id == id) (Some p) (find more id))
    by_test is true = ap (λ x. cond (p.id == id) (Some p) x) is ∙ either (p.id == id) (o.id == id) refl refl
    by_test is false = refl

pub find_by_id : (os : List Object) (id : ℕ) → IdsDiffer os → find (by_id os) id ≡ find os id
find_by_id [] id d = refl
find_by_id (o ∷ more) id d =
    find_put o (by_id more) id (each_by_id (λ (p : Object). o.id ≢ p.id) more d.0) ∙ ap (λ x. cond (o.id == id) (Some o) x) (find_by_id more id d.1)

-- ---- where a head has an id, its object is found

next_head : (h : Head) (hs : List Head) (o : Option ℕ) → head_at (h ∷ hs) (option_map suc o) ≡ head_at hs o
next_head h hs None = refl
next_head h hs (Some n) = refl

module _ (s : Schema) (orders : List (List PtrId)) where
  -- the object with an id is there and of a type
  abbrev IsFound : List Object → ℕ → TypeId → Type 0
  IsFound os id t = (o : Object) × (find os id ≡ Some o) × (o.ty ≡ t)

  place_found : (hs : List Head) (ds : List ObjectDraft) (id : ℕ) (h : Head) → length hs ≡ length ds → head_at hs (place_of hs id) ≡ Some h → IsFound (objects_of s orders hs ds) id h.ty
  place_found [] ds id h l e = absurd (cc)
  place_found (g ∷ gs) [] id h l e = absurd (omega arith)
  place_found (g ∷ gs) (d ∷ ds) id h l e = by_test (λ f. place_found gs ds id h (omega arith) f) (g.id == id) e
    where
      by_test : (head_at gs (place_of gs id) ≡ Some h → IsFound (objects_of s orders gs ds) id h.ty) → (b : Bool)
          → head_at (g ∷ gs) (cond b (Some 0) (option_map suc (place_of gs id))) ≡ Some h
          → (o : Object) × (cond b (Some (object_of s.pointers g.id g.ty (pointers_at (slice_get orders g.ty.0)) d.members)) (find (objects_of s orders gs ds) id) ≡ Some o) × (o.ty ≡ h.ty)
      by_test later true e = let same : g ≡ h = cc in (object_of s.pointers g.id g.ty (pointers_at (slice_get orders g.ty.0)) d.members, refl, ap (λ (x : Head). x.ty) same)
      by_test later false e = later (sym (next_head g gs (place_of gs id)) ∙ e)

  of_type : (hs : List Head) (ds : List ObjectDraft) (id : ℕ) (t : TypeId) (o : Option Head) → length hs ≡ length ds → head_at hs (place_of hs id) ≡ o → is_of s.types t o ≡ true
      → (x : Object) × (find (objects_of s orders hs ds) id ≡ Some x) × (is_subtype s.types x.ty t ≡ true)
  of_type hs ds id t None l e h = absurd (cc)
  of_type hs ds id t (Some g) l e h = let is = place_found hs ds id g l e in (is.0, is.1, ap (λ u. is_subtype s.types u t) is.2 ∙ h)

  -- where a target is of a type among the heads, the store has such an object
  pub target_found : (hs : List Head) (ds : List ObjectDraft) → length hs ≡ length ds → IdsDiffer (objects_of s orders hs ds) → (id : ℕ) (t : TypeId) → leads_to s.types hs t (Some id) ≡ true
      → (x : Object) × (find (by_id (objects_of s orders hs ds)) id ≡ Some x) × (is_subtype s.types x.ty t ≡ true)
  target_found hs ds l d id t h =
      let is = of_type hs ds id t (head_at hs (place_of hs id)) l refl h in
      (is.0, find_by_id (objects_of s orders hs ds) id d ∙ is.1, is.2)
