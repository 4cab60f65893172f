-- What a store gives once links are cut.
use Rattle.std.proofs.Common.{◌≡◌, ℕ, ◌==◌, Bool, true, false, cond, Option, Some, None, List, [], ◌∷◌, refl, sym, ap, ◌∙◌, subst, slice_get}
use Rattle.std.proofs.lemmas.Bool.{eqb-true}
use Rattle.std.proofs.lemmas.Cmp.{tied_itself}
use Rattle.std.specs.Cmp.Lexicographic.{slice_cmp, nat_list_cmp_total}
use Rattle.std.specs.Ordering.{nat_cmp, is_lt}
use Rattle.std.specs.declared.cmp.Ordering.TheVariants.{Equal}
use Rattle.core_ir.specs.declared.path.PtrId.{PtrId}
use Rattle.ev_schema.specs.declared.schema.Schema.{Schema}
use Rattle.db_store.specs.declared.object.Entry.{Entry}
use Rattle.db_store.specs.declared.object.Object.{Object}
use Rattle.db_store.specs.declared.object.PtrValue.{PtrValue}
use Rattle.db_store.specs.declared.object.PtrValue.TheVariants as value
use Rattle.db_store.specs.Fits.{Each, Ascend, text_before, name_of, entry_before}
use Rattle.db_store.specs.Objects.{entry, values_if_stored, targets_if_stored, values_at, targets_at}
use Rattle.eql_world.specs.View.{cut_targets, cut_value, cut_entry, is_filled, cut}
use Rattle.eql_world.proofs.Cuts.{cut_if, kept_entries}

irreflexive : (n : List ℕ) → text_before n n ≡ true → ⊥
irreflexive n e = let tied : slice_cmp nat_cmp n n ≡ Equal = tied_itself nat_list_cmp_total n in
    let clash : false ≡ true = sym (ap is_lt tied) ∙ e in cc

module _ (s : Schema) (sees : ℕ → Bool) where
  no_more_at : (e y : Entry) (es : List Entry) (p : PtrId) (b : Bool) → y.pointer.0 == p.0 ≡ b → e.pointer.0 ≡ p.0 → entry_before s e y ≡ true → entry es p ≡ None
      → (cond b (Some y.value) (entry es p)) ≡ None
  no_more_at e y es p true at is before later =
      let same : e.pointer.0 ≡ y.pointer.0 = is ∙ sym (eqb-true y.pointer.0 p.0 at) in
      absurd (irreflexive (name_of (slice_get s.pointers y.pointer.0)) (subst (λ (n : ℕ). text_before (name_of (slice_get s.pointers n)) (name_of (slice_get s.pointers y.pointer.0)) ≡ true) same before))
  no_more_at e y es p false at is before later = later

  no_more : (e : Entry) (es : List Entry) (p : PtrId) → e.pointer.0 ≡ p.0 → Each (λ (y : Entry). entry_before s e y ≡ true) es → entry es p ≡ None
  no_more e [] p is all = refl
  no_more e (y ∷ es) p is all = no_more_at e y es p (y.pointer.0 == p.0) refl is all.0 (no_more e es p is all.1)

  none_cut_at : (e : Entry) (es : List Entry) (p : PtrId) (b c : Bool) → e.pointer.0 == p.0 ≡ b → (cond b (Some e.value) (entry es p)) ≡ None
      → (entry es p ≡ None → entry (kept_entries sees es) p ≡ None)
      → entry (cond c (cut_entry sees e ∷ kept_entries sees es) (kept_entries sees es)) p ≡ None
  none_cut_at e es p true c at none later = let clash : Some e.value ≡ None = none in absurd cc
  none_cut_at e es p false true at none later = ap (λ (b : Bool). cond b (Some (cut_value sees e.value)) (entry (kept_entries sees es) p)) at ∙ later none
  none_cut_at e es p false false at none later = later none

  none_cut : (es : List Entry) (p : PtrId) → entry es p ≡ None → entry (kept_entries sees es) p ≡ None
  none_cut [] p none = refl
  none_cut (e ∷ es) p none = none_cut_at e es p (e.pointer.0 == p.0) (is_filled (cut_value sees e.value)) refl none (none_cut es p)

  module _ {X : Type 0} (g : Option PtrValue → List X) (nothing : g None ≡ []) (unfilled : (v : PtrValue) → is_filled v ≡ false → g (Some v) ≡ []) where
    cut_at : (e : Entry) (es : List Entry) (p : PtrId) (b c : Bool) → e.pointer.0 == p.0 ≡ b → is_filled (cut_value sees e.value) ≡ c
        → Each (λ (y : Entry). entry_before s e y ≡ true) es
        → g (entry (kept_entries sees es) p) ≡ g (cut_if sees (entry es p))
        → g (entry (cond c (cut_entry sees e ∷ kept_entries sees es) (kept_entries sees es)) p) ≡ g (cut_if sees (cond b (Some e.value) (entry es p)))
    cut_at e es p true true at full up later = ap (λ (b : Bool). g (cond b (Some (cut_value sees e.value)) (entry (kept_entries sees es) p))) at
    cut_at e es p true false at full up later = ap g (none_cut es p (no_more e es p (eqb-true e.pointer.0 p.0 at) up)) ∙ nothing ∙ sym (unfilled (cut_value sees e.value) full)
    cut_at e es p false true at full up later = ap (λ (b : Bool). g (cond b (Some (cut_value sees e.value)) (entry (kept_entries sees es) p))) at ∙ later
    cut_at e es p false false at full up later = later

    -- what is stored of a pointer once links are cut
    cut_stored : (es : List Entry) (p : PtrId) → Ascend (entry_before s) es → g (entry (kept_entries sees es) p) ≡ g (cut_if sees (entry es p))
    cut_stored [] p up = refl
    cut_stored (e ∷ es) p up = cut_at e es p (e.pointer.0 == p.0) (is_filled (cut_value sees e.value)) refl refl up.0 (cut_stored es p up.1)

  no_values : (v : PtrValue) → is_filled v ≡ false → values_if_stored (Some v) ≡ []
  no_values (value.Vals []) e = refl
  no_values (value.Vals (x ∷ xs)) e = let clash : true ≡ false = e in absurd cc
  no_values (value.Links ts) e = refl

  no_targets : (v : PtrValue) → is_filled v ≡ false → targets_if_stored (Some v) ≡ []
  no_targets (value.Vals vs) e = refl
  no_targets (value.Links []) e = refl
  no_targets (value.Links (x ∷ xs)) e = let clash : true ≡ false = e in absurd cc

  values_cut_if : (x : Option PtrValue) → values_if_stored (cut_if sees x) ≡ values_if_stored x
  values_cut_if None = refl
  values_cut_if (Some (value.Vals vs)) = refl
  values_cut_if (Some (value.Links ts)) = refl

  targets_cut_if : (x : Option PtrValue) → targets_if_stored (cut_if sees x) ≡ cut_targets sees (targets_if_stored x)
  targets_cut_if None = refl
  targets_cut_if (Some (value.Vals vs)) = refl
  targets_cut_if (Some (value.Links ts)) = refl

  pub values_cut : (o : Object) (p : PtrId) → Ascend (entry_before s) o.values → values_at (cut sees o) p ≡ values_at o p
  values_cut o p up = cut_stored values_if_stored refl no_values o.values p up ∙ values_cut_if (entry o.values p)

  pub targets_cut : (o : Object) (p : PtrId) → Ascend (entry_before s) o.values → targets_at (cut sees o) p ≡ cut_targets sees (targets_at o p)
  targets_cut o p up = cut_stored targets_if_stored refl no_targets o.values p up ∙ targets_cut_if (entry o.values p)
