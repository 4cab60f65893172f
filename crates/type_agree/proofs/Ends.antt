-- A path that ends in a property of a link has the type of that property.
use Rattle.std.proofs.Common.{◌≡◌, ◌≢◌, IsTrue, ℕ, suc, ◌-◌, Bool, true, false, ◌&&◌, if◌then◌else◌, Option, Some, None, List, [], ◌∷◌, length, refl, sym, ap, ◌∙◌, subst, arith}
use Rattle.std.specs.Prelude.{AllPairs, slice_get}
use Rattle.std.specs.Str.{bytes_eq}
use Rattle.std.proofs.lemmas.Slice.Eq.{bytes_eq-Decides}
use Rattle.core_ir.specs.declared.path.PtrId.{PtrId}
use Rattle.core_ir.specs.declared.path.Step.{Step}
use Rattle.core_ir.specs.declared.path.Step.TheVariants as step
use Rattle.core_ir.specs.declared.ty.Ty.{Ty}
use Rattle.core_ir.specs.declared.ty.Ty as ty
use Rattle.core_ir.specs.declared.ty.Ty.TheVariants as made
use Rattle.ev_schema.specs.declared.pointer.LinkProperty.{LinkProperty}
use Rattle.ev_schema.specs.declared.pointer.PtrInfo.{PtrInfo}
use Rattle.ev_schema.specs.declared.schema.Schema.{Schema}
use Rattle.ev_schema.specs.Steps.{type_among, type_of_property, type_at_link, type_after, link_of}
use Rattle.eql_agree.specs.Kinds.{Each}
use Rattle.eql_sem.specs.Scopes.{property_of, last_property}
use Rattle.store_agree.specs.Typed.{is_scalar, property_leads, of_link}
use Rattle.type_agree.specs.Premises.{IsTypedSchema}
use Rattle.type_agree.proofs.Widened.{both, none_some, some_same, scalar_itself}
use Rattle.type_agree.proofs.Walks.{Walks, apart_from, apart_behind}

abbrev Apart : LinkProperty → LinkProperty → Type 0
Apart q r = q.name ≢ r.name

-- no step is both a link and the property of one
no_property : (x : Step) (a : PtrId × List ℕ) → property_of (Some x) (Some x) ≡ Some a → ⊥
no_property (step.Link l) a e = none_some e
no_property (step.LinkProp n) a e = none_some e
no_property (step.Prop p) a e = none_some e
no_property (step.Comp p) a e = none_some e
no_property (step.Back p b) a e = none_some e
no_property (step.Is b) a e = none_some e
no_property (step.Dot n) a e = none_some e
no_property (step.BackDot n b) a e = none_some e

module _ (s : Schema) where
  none_by : (q : LinkProperty) (more : List LinkProperty) (n : List ℕ) (t : Ty) → n ≢ q.name → IsTrue (property_leads s more n t) → (b : Bool) → bytes_eq q.name n ≡ b → IsTrue ((if b then is_scalar q.ty t else true) && property_leads s more n t)
  none_by q more n t h r true e = absurd (h (sym ((bytes_eq-Decides q.name n).0 e)))
  none_by q more n t h r false e = r

  -- properties with other names say nothing
  none_lead : (qs : List LinkProperty) (n : List ℕ) (t : Ty) → Each (λ (q : LinkProperty). n ≢ q.name) qs → IsTrue (property_leads s qs n t)
  none_lead [] n t h = refl
  none_lead (q ∷ qs) n t h = none_by q qs n t h.0 (none_lead qs n t h.1) (bytes_eq q.name n) refl

  one_or_more : (q : LinkProperty) (qs : List LinkProperty) (n : List ℕ) (t : Ty) → Each (Apart q) qs → (type_among qs n ≡ Some t → IsTrue (property_leads s qs n t)) → (b : Bool) → bytes_eq q.name n ≡ b
      → (if b then Some (made.Scalar q.ty) else type_among qs n) ≡ Some t → IsTrue ((if b then is_scalar q.ty t else true) && property_leads s qs n t)
  one_or_more q qs n t h more true e i =
      both (is_scalar q.ty t) (property_leads s qs n t) (subst (λ t. IsTrue (is_scalar q.ty t)) (some_same i) (scalar_itself q.ty))
      (none_lead qs n t (subst (λ n. Each (λ (r : LinkProperty). n ≢ r.name) qs) ((bytes_eq-Decides q.name n).0 e) h))
  one_or_more q qs n t h more false e i = more i

  -- the one property with a name has its type
  property_has : (qs : List LinkProperty) (n : List ℕ) (t : Ty) → AllPairs Apart qs → type_among qs n ≡ Some t → IsTrue (property_leads s qs n t)
  property_has [] n t d e = refl
  property_has (q ∷ qs) n t d e = one_or_more q qs n t (apart_from Apart q qs d) (λ i. property_has qs n t (apart_behind Apart q qs d) i) (bytes_eq q.name n) refl e

  at_link : (l : PtrId) (n : List ℕ) (v t : Ty) → type_after s (Some l) v (step.LinkProp n) ≡ Some t → type_at_link s (Some l) n ≡ Some t
  at_link l n (ty.Object a) t e = e
  at_link l n (ty.Scalar a) t e = none_some e
  at_link l n (ty.Tuple' _ a) t e = none_some e
  at_link l n (ty.Array a) t e = none_some e

  by_link : (x y : Step) (v t : Ty) (a : PtrId × List ℕ) → property_of (Some x) (Some y) ≡ Some a → type_after s (link_of x) v y ≡ Some t → type_at_link s (Some a.0) a.1 ≡ Some t
  by_link (step.Link l) (step.LinkProp n) v t a e f = subst (λ a. type_at_link s (Some a.0) a.1 ≡ Some t) (some_same e) (at_link l n v t f)
  by_link _ _ v t a e f = none_some e

  last_of_more : (x y z : Step) (more : List Step) → last_property (x ∷ y ∷ z ∷ more) ≡ last_property (y ∷ z ∷ more)
  last_of_more x y z more =
      let two : length (x ∷ y ∷ z ∷ more) - 2 ≡ suc (length (y ∷ z ∷ more) - 2) = omega arith in
      let one : length (x ∷ y ∷ z ∷ more) - 1 ≡ suc (length (y ∷ z ∷ more) - 1) = omega arith in
      λ i. property_of (slice_get (x ∷ y ∷ z ∷ more) (two i)) (slice_get (x ∷ y ∷ z ∷ more) (one i))

  ends : (link : Option PtrId) (u : Ty) (xs : List Step) (t : Ty) (a : PtrId × List ℕ) → Walks s link u xs t → last_property xs ≡ Some a → type_at_link s (Some a.0) a.1 ≡ Some t
  ends link u [] t a h e = none_some e
  ends link u (x ∷ []) t a h e = absurd (no_property x a e)
  ends link u (x ∷ y ∷ []) t a (v, f, o, (w, g, p, i)) e = by_link x y v t a e (g ∙ ap Some i)
  ends link u (x ∷ y ∷ z ∷ more) t a (v, f, o, h) e = ends (link_of x) v (y ∷ z ∷ more) t a h (sym (last_of_more x y z more) ∙ e)

  module _ (typed : IsTypedSchema s) where
    in_pointer : (p : PtrId) (o : Option PtrInfo) (n : List ℕ) (t : Ty) → slice_get s.pointers p.0 ≡ o → type_of_property o n ≡ Some t → IsTrue (of_link s o n t)
    in_pointer p None n t f e = refl
    in_pointer p (Some info) n t f e = property_has info.link_props n t (typed.properties p info f) e

    pub property_leads_on : (u : Ty) (xs : List Step) (t : Ty) (l : PtrId) (n : List ℕ) → Walks s None u xs t → last_property xs ≡ Some (l, n) → IsTrue (of_link s (slice_get s.pointers l.0) n t)
    property_leads_on u xs t l n h e = in_pointer l (slice_get s.pointers l.0) n t refl (ends None u xs t (l, n) h e)
