-- One more computed pointer of a schema brings its expression, and changes nothing of what was brought before.
use Rattle.std.proofs.Common.{◌≡◌, ℕ, zero, suc, List, [], ◌∷◌, ◌++◌, map, Option, Some, None, slice_get, slice_set, refl, sym, ap, ◌∙◌}
use Rattle.core_ir.specs.declared.card.Card.{Card}
use Rattle.core_ir.specs.declared.path.PtrId.{PtrId}
use Rattle.core_ir.specs.declared.path.TypeId.{TypeId}
use Rattle.ev_schema.specs.Facts.{bounded, with_bounded, with_bounds, with_computed as schema_with}
use Rattle.ev_schema.specs.declared.pointer.Computed.{Computed}
use Rattle.ev_schema.specs.declared.pointer.PtrInfo.{PtrInfo}
use Rattle.ev_schema.specs.declared.schema.Schema.{Schema}
use Rattle.tree_weight.specs.Brought.{target_if_known, with_target, by_types, with_computed, with_all, by_rules, in_schema}
use Rattle.tree_weight.specs.Measure.{Measure, Brought}
use Rattle.tree_weight.specs.Rules.{alone}

set_target : (ps : List PtrInfo) (i j : ℕ) (info : PtrInfo) (c : Card) → slice_get ps i ≡ Some info → target_if_known (slice_get (slice_set ps i (bounded c info)) j) ≡ target_if_known (slice_get ps j)
set_target [] i j info c is = refl
set_target (p ∷ ps) zero zero info c is = ap target_if_known (sym is)
set_target (p ∷ ps) zero (suc j) info c is = refl
set_target (p ∷ ps) (suc i) zero info c is = refl
set_target (p ∷ ps) (suc i) (suc j) info c is = set_target ps i j info c is

bounded_target : (ps : List PtrInfo) (p : PtrId) (c : Card) (o : Option PtrInfo) (j : ℕ) → slice_get ps p.0 ≡ o → target_if_known (slice_get (with_bounded ps p c o) j) ≡ target_if_known (slice_get ps j)
bounded_target ps p c None j is = refl
bounded_target ps p c (Some info) j is = set_target ps p.0 j info c is

module _ {A : Type 0} (m : Measure A) where
  one_more : (b : Brought A) (cs : List Computed) (c : Computed) → with_all m b (cs ++ c ∷ []) ≡ with_computed m (with_all m b cs) c
  one_more b [] c = refl
  one_more b (x ∷ cs) c = one_more (with_computed m b x) cs c

  links_stay : (f : TypeId → A) (ps : List PtrInfo) (p : PtrId) (c : Card) → by_types m f (with_bounds p c ps) ≡ by_types m f ps
  links_stay f ps p c = λ i. record {
    by_type = f;
    by_link = λ q. with_target m f (bounded_target ps p c (slice_get ps p.0) q.0 refl i);
    by_computed = λ q. m.none;
  }

  -- what a schema brings into its expressions, once it knows one more
  pub one_more_brought : (schema : Schema) (c : Computed) → in_schema m (schema_with c schema) ≡ with_computed m (in_schema m schema) c
  one_more_brought schema c =
      let f = by_rules m schema (map (alone m) schema.policies) in
      one_more (by_types m f (with_bounds c.pointer c.card schema.pointers)) schema.computed c
      ∙ ap (λ b. with_computed m (with_all m b schema.computed) c) (links_stay f schema.pointers c.pointer c.card)
