-- One turn of each loop over objects with their ids and types.
use Rattle.std.proofs.Common.{◌≡◌, ℕ, suc, ◌+◌, ◌≤◌, ◌<◌, get_or, add-one, arith, List, [], ◌∷◌, ◌++◌, drop, length, Option, Some, None, slice_get, sym, ap, ◌∙◌, refl, append_assoc, append-nil, inl, inr}
use Rattle.std.proofs.lemmas.List.{at_drop_more, at_drop_all}
use Rattle.std.proofs.lemmas.Option.{slice_get_within, get_or_from_slice_get, slice_get_cases}
use Rattle.core_ir.specs.declared.path.PtrId.{PtrId}
use Rattle.ev_schema.specs.declared.schema.Schema.{Schema}
use Rattle.db_draft.specs.First.{or_else}
use Rattle.db_draft.specs.declared.draft.ObjectDraft.{ObjectDraft}
use Rattle.db_draft.specs.declared.refusal.Broken.{Broken}
use Rattle.db_store.specs.declared.object.Object.{Object}
use Rattle.db_ids.specs.declared.heads.Head.{Head}
use Rattle.db_values.specs.Made.{object_of}
use Rattle.db_values.specs.Names.{object_flaw}
use Rattle.db_values.specs.declared.flaw.Flaw.{Flaw}
use Rattle.db_check.specs.Check.{values_from, objects_of, told_flaw}
use Rattle.db_check.specs.Exclusive.{pointers_at}

-- an element that is found is the first of those that are left
pub left_at : {A : Type 0} (xs : List A) (i : ℕ) (x : A) → slice_get xs i ≡ Some x → drop i xs ≡ x ∷ drop (i + 1) xs
left_at xs i x e = at_drop_more (λ l. l) xs i x (slice_get_within xs i x e) ∙ ap (λ y. y ∷ drop (i + 1) xs) (get_or_from_slice_get xs i x x e)

pub left_item : {A : Type 0} (xs : List A) (i : ℕ) (x : A) → i < length xs → x ≡ get_or xs i x → drop i xs ≡ x ∷ drop (i + 1) xs
left_item xs i x h e = at_drop_more (λ l. l) xs i x h ∙ ap (λ y. y ∷ drop (i + 1) xs) (sym e)

-- where none is found, none is left
pub none_left : {A : Type 0} (xs : List A) (i : ℕ) → slice_get xs i ≡ None → drop i xs ≡ []
none_left xs i e = elim (slice_get_cases xs i).1 [ inl h ↦ absurd (none_some (slice_get xs i) h.0 e h.2) | inr h ↦ at_drop_all (λ l. l) xs i h.0 ]
  where
    none_some : {A : Type 0} (o : Option A) (x : A) → o ≡ None → o ≡ Some x → ⊥
    none_some o x e f = cc

module _ (s : Schema) (orders : List (List PtrId)) where
  -- ---- what fails

  -- where no id and type is left, nothing fails
  pub values_end : (all : List Head) (n : ℕ) (heads : List Head) (ds : List ObjectDraft) (whole : Option Broken) → heads ≡ [] → values_from s orders all n heads ds ≡ whole → None ≡ whole
  values_end all n heads ds whole e is = sym (ap (λ l. values_from s orders all n l ds) e) ∙ is

  no_draft : (all : List Head) (n : ℕ) (heads : List Head) → None ≡ values_from s orders all n heads []
  no_draft all n [] = refl
  no_draft all n (h ∷ heads) = refl

  -- nor where no draft is left
  pub values_done : (all : List Head) (n : ℕ) (heads : List Head) (ds : List ObjectDraft) (whole : Option Broken) → ds ≡ [] → values_from s orders all n heads ds ≡ whole → None ≡ whole
  values_done all n heads ds whole e is = no_draft all n heads ∙ sym (ap (values_from s orders all n heads) e) ∙ is

  module _ (all : List Head) (n : ℕ) (h : Head) (d : ObjectDraft) (listed : List PtrId) (heads rest : List Head) (ds more : List ObjectDraft) (whole : Option Broken) where
    flaw_first : heads ≡ h ∷ rest → ds ≡ d ∷ more → listed ≡ pointers_at (slice_get orders h.ty.0) → values_from s orders all n heads ds ≡ whole → or_else (told_flaw n (object_flaw s all h.ty listed d.members)) (values_from s orders all (suc n) rest more) ≡ whole
    flaw_first eh ed ps is =
        ap (λ l. or_else (told_flaw n (object_flaw s all h.ty l d.members)) (values_from s orders all (suc n) rest more)) ps
        ∙ sym (λ i. values_from s orders all n (eh i) (ed i)) ∙ is

    pub values_turn : heads ≡ h ∷ rest → ds ≡ d ∷ more → listed ≡ pointers_at (slice_get orders h.ty.0) → None ≡ object_flaw s all h.ty listed d.members → values_from s orders all n heads ds ≡ whole → values_from s orders all (n + 1) rest more ≡ whole
    values_turn eh ed ps f is =
        ap (λ k. values_from s orders all k rest more) (add-one n)
        ∙ ap (λ o. or_else (told_flaw n o) (values_from s orders all (suc n) rest more)) f ∙ flaw_first eh ed ps is

    pub values_found : (flaw : Flaw) → heads ≡ h ∷ rest → ds ≡ d ∷ more → listed ≡ pointers_at (slice_get orders h.ty.0) → Some flaw ≡ object_flaw s all h.ty listed d.members → values_from s orders all n heads ds ≡ whole → told_flaw n (Some flaw) ≡ whole
    values_found flaw eh ed ps f is =
        ap (λ o. or_else (told_flaw n o) (values_from s orders all (suc n) rest more)) f ∙ flaw_first eh ed ps is

  -- ---- what is made

  -- there are no more objects than drafts
  pub no_more : (heads : List Head) (ds : List ObjectDraft) → length (objects_of s orders heads ds) ≤ length ds
  no_more [] ds = omega arith
  no_more (h ∷ heads) [] = omega arith
  no_more (h ∷ heads) (d ∷ ds) = let e = no_more heads ds in omega arith

  no_object : (heads : List Head) → objects_of s orders heads [] ≡ []
  no_object [] = refl
  no_object (h ∷ heads) = refl

  pub objects_end : (made whole : List Object) (heads : List Head) (ds : List ObjectDraft) → heads ≡ [] → made ++ objects_of s orders heads ds ≡ whole → made ≡ whole
  objects_end made whole heads ds e is = sym (append-nil made) ∙ sym (ap (λ l. made ++ objects_of s orders l ds) e) ∙ is

  pub objects_done : (made whole : List Object) (heads : List Head) (ds : List ObjectDraft) → ds ≡ [] → made ++ objects_of s orders heads ds ≡ whole → made ≡ whole
  objects_done made whole heads ds e is = sym (append-nil made) ∙ ap (λ l. made ++ l) (sym (no_object heads)) ∙ sym (ap (λ l. made ++ objects_of s orders heads l) e) ∙ is

  pub objects_turn : (h : Head) (d : ObjectDraft) (listed : List PtrId) (o : Object) (made whole : List Object) (heads rest : List Head) (ds more : List ObjectDraft) → heads ≡ h ∷ rest → ds ≡ d ∷ more → listed ≡ pointers_at (slice_get orders h.ty.0) → o ≡ object_of s.pointers h.id h.ty listed d.members → made ++ objects_of s orders heads ds ≡ whole → (made ++ o ∷ []) ++ objects_of s orders rest more ≡ whole
  objects_turn h d listed o made whole heads rest ds more eh ed ps os is =
      append_assoc made (o ∷ []) (objects_of s orders rest more)
      ∙ ap (λ x. made ++ x ∷ objects_of s orders rest more) (os ∙ ap (λ l. object_of s.pointers h.id h.ty l d.members) ps)
      ∙ sym (λ i. made ++ objects_of s orders (eh i) (ed i)) ∙ is
