-- An object that a draft writes has values for pointers of its type alone.
use Rattle.std.proofs.Common.{◌≡◌, ◌==◌, true, false, List, [], ◌∷◌, ◌++◌, Option, Some, None, slice_get, cond, refl, ap, ◌∙◌}
use Rattle.core_ir.specs.declared.path.PtrId.{PtrId}
use Rattle.core_ir.specs.declared.ty.Ty.{Ty}
use Rattle.core_ir.specs.declared.ty.Ty as ty
use Rattle.ev_schema.specs.declared.pointer.Body.{Body}
use Rattle.ev_schema.specs.declared.pointer.Body.TheVariants as body
use Rattle.ev_schema.specs.declared.pointer.PtrInfo.{PtrInfo}
use Rattle.ev_schema.specs.declared.schema.Schema.{Schema}
use Rattle.db_draft.specs.Members.{member}
use Rattle.db_draft.specs.declared.draft.Element.{Element}
use Rattle.db_draft.specs.declared.draft.Member.{Member}
use Rattle.db_draft.specs.declared.draft.ObjectDraft.{ObjectDraft}
use Rattle.db_store.specs.Fits.{Each}
use Rattle.db_store.specs.Objects.{entry, led_to_if_stored}
use Rattle.db_store.specs.declared.object.Entry.{Entry}
use Rattle.db_ids.specs.declared.heads.Head.{Head}
use Rattle.db_values.specs.Elements.{elements}
use Rattle.db_values.specs.Made.{stored_entry, entry_of, entry_if_known, entries}
use Rattle.db_check.specs.Check.{objects_of}
use Rattle.db_check.specs.Exclusive.{is_exclusive_pointer, pointers_at}
use Rattle.db_check.proofs.Clashes.{is_listed, Lists}
use Rattle.db_check.proofs.NoFlaw.{neither}

module _ (p : PtrId) where
  abbrev Other : Entry → Type 0
  Other e = (e.pointer.0 == p.0) ≡ false

  pub skipped : (xs ys : List Entry) → Each Other xs → entry (xs ++ ys) p ≡ entry ys p
  skipped [] ys h = refl
  skipped (x ∷ xs) ys h = ap (λ b. cond b (Some x.value) (entry (xs ++ ys) p)) h.0 ∙ skipped xs ys h.1

  module _ (q : PtrId) (other : (q.0 == p.0) ≡ false) where
    stored_other : (info : PtrInfo) (t : Ty) (es : List Element) → Each Other (stored_entry q info t es)
    stored_other info (ty.Scalar t) [] = tt
    stored_other info (ty.Object t) [] = tt
    stored_other info (ty.Tuple' n ts) [] = tt
    stored_other info (ty.Array t) [] = tt
    stored_other info (ty.Scalar t) (e ∷ more) = (other, tt)
    stored_other info (ty.Object t) (e ∷ more) = (other, tt)
    stored_other info (ty.Tuple' n ts) (e ∷ more) = tt
    stored_other info (ty.Array t) (e ∷ more) = tt

    body_other : (info : PtrInfo) (b : Body) (es : List Element) → Each Other (entry_of q info b es)
    body_other info (body.Stored t) es = stored_other info t es
    body_other info body.Computed es = tt

    pub known_other : (ms : List Member) (o : Option PtrInfo) → Each Other (entry_if_known ms q o)
    known_other ms None = tt
    known_other ms (Some info) = body_other info info.body (elements (member ms info.name))

  no_entry : (infos : List PtrInfo) (ms : List Member) (listed : List PtrId) → is_listed p listed ≡ false → entry (entries infos ms listed) p ≡ None
  no_entry infos ms [] h = refl
  no_entry infos ms (q ∷ more) h =
      let both = neither (q.0 == p.0) (is_listed p more) h in
      skipped (entry_if_known ms q (slice_get infos q.0)) (entries infos ms more) (known_other q both.0 ms (slice_get infos q.0)) ∙ no_entry infos ms more both.1

  pub made_list : (s : Schema) (is : is_exclusive_pointer s.pointers p ≡ true) (orders : List (List PtrId)) (hs : List Head) (ds : List ObjectDraft) → Each (Lists s.pointers p is orders) (objects_of s orders hs ds)
  made_list s is orders [] ds = tt
  made_list s is orders (h ∷ hs) [] = tt
  made_list s is orders (h ∷ hs) (d ∷ ds) =
      ((λ e. ap led_to_if_stored (no_entry s.pointers d.members (pointers_at (slice_get orders h.ty.0)) e)), made_list s is orders hs ds)
