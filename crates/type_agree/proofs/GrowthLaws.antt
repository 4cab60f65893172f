-- Once one more expression is known, names and types are as they were.
use Rattle.std.proofs.Common.{◌≡◌, ◌≢◌, IsTrue, ℕ, zero, suc, ◌-◌, ◌<◌, ◌==◌, Bool, true, false, Option, Some, None, option_map, List, [], ◌∷◌, ◌++◌, length, get_or, if◌then◌else◌, refl, sym, ap, ◌∙◌, subst, arith}
use Rattle.std.specs.Prelude.{AllPairs, slice_get, slice_set}
use Rattle.std.proofs.lemmas.List.{length-set}
use Rattle.std.proofs.lemmas.List.Quantifiers.{all_pairs_push}
use Rattle.ev_value.specs.declared.value.ScalarTy.TheVariants as scalar
use Rattle.core_ir.specs.declared.card.Card.{Card}
use Rattle.core_ir.specs.declared.card.Card.TheVariants as card
use Rattle.core_ir.specs.declared.path.PtrId.{PtrId}
use Rattle.core_ir.specs.declared.path.Step.{Step}
use Rattle.core_ir.specs.declared.path.Step.TheVariants as step
use Rattle.core_ir.specs.declared.path.TypeId.{TypeId}
use Rattle.core_ir.specs.declared.phase.Core.{Core}
use Rattle.core_ir.specs.declared.phase.Typed.{Typed}
use Rattle.core_ir.specs.declared.tree.Alias.{Alias}
use Rattle.core_ir.specs.declared.tree.Element.{Element}
use Rattle.core_ir.specs.declared.tree.Expr.{Expr, Row_of-Expr, Row_of-Scope, Row_of-Alias, Row_of-Element}
use Rattle.core_ir.specs.declared.tree.Key.{Key}
use Rattle.core_ir.specs.declared.tree.Occurrence.{Occurrence}
use Rattle.core_ir.specs.declared.tree.Scope.{Scope}
use Rattle.core_ir.specs.declared.tree.Select.{Held-Select-filter, Row_of-Key}
use Rattle.core_ir.specs.declared.ty.Ty.{Ty}
use Rattle.core_ir.specs.declared.ty.Ty as ty
use Rattle.core_ir.specs.declared.ty.Ty.TheVariants as made
use Rattle.ev_schema.specs.Facts.{bounded, with_bounded, with_computed}
use Rattle.ev_schema.specs.Pointers.{is_id, has_name, id_pointer, first_named, id_named, or_id, pointer_named, computed_among}
use Rattle.ev_schema.specs.Steps.{type_stored, type_computed, type_of_property, type_at_link, type_after}
use Rattle.ev_schema.specs.Types.{is_subtype, listed_pointers}
use Rattle.ev_schema.specs.declared.pointer.Body.{Body}
use Rattle.ev_schema.specs.declared.pointer.Body.TheVariants as body
use Rattle.ev_schema.specs.declared.pointer.Computed.{Computed}
use Rattle.ev_schema.specs.declared.pointer.LinkProperty.{LinkProperty}
use Rattle.ev_schema.specs.declared.pointer.PtrInfo.{PtrInfo}
use Rattle.ev_schema.specs.declared.schema.Schema.{Schema}
use Rattle.eql_agree.specs.Kinds.{Each}
use Rattle.type_rules.specs.declared.steps.Walked.{Walked}
use Rattle.type_rules.specs.Known.{Known}
use Rattle.type_rules.specs.Steps.{step_by, step_of, target_at, as_link, link_named}
use Rattle.type_infer.specs.declared.clause.Clause.{Clause}
use Rattle.type_infer.specs.HasType.{HasType, HaveTypes, ScopesHaveTypes, AliasesHaveTypes, ElementsHaveTypes, KeysHaveTypes, KeyHasType, ClauseHasType, StandsFor, IsPath}
use Rattle.type_infer.specs.HasType as has
use Rattle.type_infer.specs.Laws.{HasTypes}
use Rattle.type_agree.specs.Premises.{lists, IsOfOrigin, IsTypedSchema}
use Rattle.type_agree.specs.Growth.{TypesAreKept}
use Rattle.type_agree.proofs.Widened.{none_some, some_same}

each_at : {A : Type 0} (P : A → Type 0) (xs : List A) → Each P xs → (k : ℕ) (d : A) → k < length xs → P (get_or xs k d)
each_at P [] h k d lt = absurd (omega arith)
each_at P (x ∷ xs) h zero d lt = h.0
each_at P (x ∷ xs) h (suc k) d lt = each_at P xs h.1 k d (omega arith)

-- ---- pointers within other bounds

-- what is there is there within some bounds
as_bounded : (o : Option PtrInfo) → (d : Card) × (o ≡ option_map (bounded d) o)
as_bounded None = (card.One, refl)
as_bounded (Some info) = (info.card, refl)

set_at : (ps : List PtrInfo) (i n : ℕ) (c : Card) (old : PtrInfo) → slice_get ps i ≡ Some old → (d : Card) × (slice_get (slice_set ps i (bounded c old)) n ≡ option_map (bounded d) (slice_get ps n))
set_at [] i n c old e = none_some e
set_at (p ∷ ps) zero zero c old e = (c, ap (λ (info : PtrInfo). Some (bounded c info)) (sym (some_same e)))
set_at (p ∷ ps) zero (suc n) c old e = as_bounded (slice_get ps n)
set_at (p ∷ ps) (suc i) zero c old e = as_bounded (Some p)
set_at (p ∷ ps) (suc i) (suc n) c old e = set_at ps i n c old e

bounds_at : (ps : List PtrInfo) (p : PtrId) (c : Card) (o : Option PtrInfo) → slice_get ps p.0 ≡ o → (n : ℕ) → (d : Card) × (slice_get (with_bounded ps p c o) n ≡ option_map (bounded d) (slice_get ps n))
bounds_at ps p c None e n = as_bounded (slice_get ps n)
bounds_at ps p c (Some old) e n = set_at ps p.0 n c old e

length_bounded : (ps : List PtrInfo) (p : PtrId) (c : Card) (o : Option PtrInfo) → length (with_bounded ps p c o) ≡ length ps
length_bounded ps p c None = refl
length_bounded ps p c (Some old) = length-set ps p.0 (bounded c old)

-- bounds change nothing else that is said of a pointer
module _ (d : Card) where
  same_name : (o : Option PtrInfo) (n : List ℕ) → has_name (option_map (bounded d) o) n ≡ has_name o n
  same_name None n = refl
  same_name (Some info) n = refl

  same_stored : (o : Option PtrInfo) → type_stored (option_map (bounded d) o) ≡ type_stored o
  same_stored None = refl
  same_stored (Some info) = refl

  same_step : (p : PtrId) (o : Option PtrInfo) (c : Option Computed) → step_of p (option_map (bounded d) o) c ≡ step_of p o c
  same_step p None c = refl
  same_step p (Some info) c = refl

  same_target : (o : Option PtrInfo) → target_at (option_map (bounded d) o) ≡ target_at o
  same_target None = refl
  same_target (Some info) = refl

  same_property : (o : Option PtrInfo) (n : List ℕ) → type_of_property (option_map (bounded d) o) n ≡ type_of_property o n
  same_property None n = refl
  same_property (Some info) n = refl

  -- what is there within bounds was there
  was_there : (o : Option PtrInfo) (info : PtrInfo) → option_map (bounded d) o ≡ Some info → (old : PtrInfo) × (o ≡ Some old) × (bounded d old ≡ info)
  was_there None info e = none_some e
  was_there (Some old) info e = (old, refl, some_same e)

-- ---- expressions that are known

among_more : (cs more : List Computed) (p : PtrId) (d : Computed) → computed_among cs p ≡ Some d → computed_among (cs ++ more) p ≡ Some d
among_more [] more p d e = none_some e
among_more (c ∷ cs) more p d e = by_test (c.pointer.0 == p.0) e (λ f. among_more cs more p d f)
  where
    by_test : (b : Bool) → (if b then Some c else computed_among cs p) ≡ Some d → (computed_among cs p ≡ Some d → computed_among (cs ++ more) p ≡ Some d) → (if b then Some c else computed_among (cs ++ more) p) ≡ Some d
    by_test true e f = e
    by_test false e f = f e

-- a step stays the one that a name stands for
step_kept : (p : PtrId) (o : Option PtrInfo) (a b : Option Computed) (y : Step) → ((d : Computed) → a ≡ Some d → b ≡ Some d) → step_of p o a ≡ Some y → step_of p o b ≡ Some y
step_kept p o (Some d) b y f e = ap (step_of p o) (f d refl) ∙ e
step_kept p None None b y f e = none_some e
step_kept p (Some info) None b y f e = by_body info.body e
  where
    by_body : (x : Body) → step_by p x None ≡ Some y → step_by p x b ≡ Some y
    by_body (body.Stored (ty.Object t)) e = e
    by_body (body.Stored (ty.Scalar t)) e = e
    by_body (body.Stored (ty.Tuple' _ t)) e = e
    by_body (body.Stored (ty.Array t)) e = e
    by_body body.Computed e = none_some e

type_kept : (a b : Option Computed) (t : Ty) → ((d : Computed) → a ≡ Some d → b ≡ Some d) → type_computed a ≡ Some t → type_computed b ≡ Some t
type_kept (Some d) b t f e = ap type_computed (f d refl) ∙ e
type_kept None b t f e = none_some e

module _ (s : Schema) (c : Computed) where
  abbrev more : Schema
  more = with_computed c s

  at : (n : ℕ) → (d : Card) × (slice_get more.pointers n ≡ option_map (bounded d) (slice_get s.pointers n))
  at n = bounds_at s.pointers c.pointer c.card (slice_get s.pointers c.pointer.0) refl n

  name_at : (p : PtrId) (n : List ℕ) → has_name (slice_get more.pointers p.0) n ≡ has_name (slice_get s.pointers p.0) n
  name_at p n = let q = at p.0 in ap (λ o. has_name o n) q.1 ∙ same_name q.0 (slice_get s.pointers p.0) n

  stored_at : (p : PtrId) → type_stored (slice_get more.pointers p.0) ≡ type_stored (slice_get s.pointers p.0)
  stored_at p = let q = at p.0 in ap type_stored q.1 ∙ same_stored q.0 (slice_get s.pointers p.0)

  first_kept : (ps : List PtrId) (n : List ℕ) → first_named more.pointers ps n ≡ first_named s.pointers ps n
  first_kept [] n = refl
  first_kept (p ∷ ps) n = λ i. if name_at p n i then Some p else first_kept ps n i

  length_kept : length more.pointers ≡ length s.pointers
  length_kept = length_bounded s.pointers c.pointer c.card (slice_get s.pointers c.pointer.0)

  id_kept : (n : List ℕ) → id_named more.pointers n ≡ id_named s.pointers n
  id_kept n = ap (λ k. first_named more.pointers (record { 0 = k - 1 } ∷ []) n) length_kept ∙ first_kept (id_pointer s.pointers ∷ []) n

  named_kept : (t : TypeId) (n : List ℕ) → pointer_named more t n ≡ pointer_named s t n
  named_kept t n = λ i. or_id (first_kept (listed_pointers s.types t) n i) (id_kept n i)

  among_kept : (p : PtrId) (d : Computed) → computed_among s.computed p ≡ Some d → computed_among more.computed p ≡ Some d
  among_kept p d e = among_more s.computed (c ∷ []) p d e

  stands_kept : (p : PtrId) (y : Step) → step_of p (slice_get s.pointers p.0) (computed_among s.computed p) ≡ Some y → step_of p (slice_get more.pointers p.0) (computed_among more.computed p) ≡ Some y
  stands_kept p y e =
      let q = at p.0 in
      ap (λ o. step_of p o (computed_among more.computed p)) q.1 ∙ same_step q.0 p (slice_get s.pointers p.0) (computed_among more.computed p)
      ∙ step_kept p (slice_get s.pointers p.0) (computed_among s.computed p) (computed_among more.computed p) y (among_kept p) e

  as_link_kept : (o : Option PtrId) → as_link more o ≡ as_link s o
  as_link_kept None = refl
  as_link_kept (Some p) = let q = at p.0 in ap (option_map (λ target. (p, target))) (ap target_at q.1 ∙ same_target q.0 (slice_get s.pointers p.0))

  link_kept : (t : TypeId) (n : List ℕ) → link_named more t n ≡ link_named s t n
  link_kept t n = ap (as_link more) (named_kept t n) ∙ as_link_kept (pointer_named s t n)

  property_kept : (link : Option PtrId) (n : List ℕ) → type_at_link more link n ≡ type_at_link s link n
  property_kept None n = refl
  property_kept (Some l) n = let q = at l.0 in ap (λ o. type_of_property o n) q.1 ∙ same_property q.0 (slice_get s.pointers l.0) n

  after_kept : (link : Option PtrId) (u : Ty) (x : Step) (t : Ty) → type_after s link u x ≡ Some t → type_after more link u x ≡ Some t
  after_kept link (ty.Object a) (step.Prop p) t e = stored_at p ∙ e
  after_kept link (ty.Object a) (step.Link p) t e = stored_at p ∙ e
  after_kept link (ty.Object a) (step.Comp p) t e = type_kept (computed_among s.computed p) (computed_among more.computed p) t (among_kept p) e
  after_kept link (ty.Object a) (step.Back p b) t e = e
  after_kept link (ty.Object a) (step.Is b) t e = e
  after_kept link (ty.Object a) (step.LinkProp n) t e = property_kept link n ∙ e
  after_kept link (ty.Object a) (step.Dot n) t e = none_some e
  after_kept link (ty.Object a) (step.BackDot n b) t e = none_some e
  after_kept link (ty.Scalar a) x t e = none_some e
  after_kept link (ty.Tuple' _ a) x t e = none_some e
  after_kept link (ty.Array a) x t e = none_some e

  -- ---- paths and trees

  stands : {u : Ty} {x y : Step} → StandsFor s u x y → StandsFor more u x y
  stands (has.pointer e f) = has.pointer (named_kept _ _ ∙ e) (stands_kept _ _ f)
  stands (has.back e f) = has.back (link_kept _ _ ∙ e) f
  stands has.narrowing = has.narrowing
  stands has.property = has.property

  leads : {w v : Walked} {xs : List Step} → has.Leads s w xs v → has.Leads more w xs v
  leads has.here = has.here
  leads (has.on {w = w} {y = y} {t = t} e f l) = has.on (stands e) (after_kept w.link w.reached y t f) (leads l)

  is_path : {k : Known} {o : Occurrence} {y : Occurrence × Ty} → IsPath s k o y → IsPath more k o y
  is_path (has.path e l) = has.path e (leads l)

  mutual
    kept : {k l : Known} {x : Expr} {y : Expr × Ty} → HasType s k x y l → HasType more k x y l
    kept (has.constant e) = has.constant e
    kept (has.parameter e) = has.parameter e
    kept (has.global_value e) = has.global_value e
    kept (has.path_of p) = has.path_of (is_path p)
    kept (has.on_base a p) = has.on_base (kept a) (is_path p)
    kept (has.operation a e) = has.operation (all_kept a) e
    kept (has.plus a e) = has.plus (kept a) e
    kept (has.cast a e) = has.cast (kept a) e
    kept (has.tuple a) = has.tuple (all_kept a)
    kept (has.optional_equal a b e) = has.optional_equal (kept a) (kept b) e
    kept (has.membership a b e) = has.membership (kept a) (kept b) e
    kept (has.of_set a e) = has.of_set (kept a) e
    kept (has.union a b e) = has.union (kept a) (kept b) e
    kept (has.set a e) = has.set (scopes_kept a) e
    kept (has.coalesce a b e) = has.coalesce (kept a) (kept b) e
    kept (has.value_first a b c d e) = has.value_first (kept a) (kept b) (kept c) d e
    kept (has.condition_first a b c d e) = has.condition_first (kept a) (kept b) (kept c) d e
    kept (has.shaped a b e) = has.shaped (kept a) (elements_kept b) e
    kept (has.select a b c d e f) = has.select (aliases_kept a) (kept b) (clause_kept c) (keys_kept d) (clause_kept e) (clause_kept f)
    kept (has.each a b c) = has.each (aliases_kept a) (kept b) (kept c)
    kept (has.array a e) = has.array (all_kept a) e
    kept (has.array_cast a e f) = has.array_cast (kept a) e f
    kept (has.unpack a e) = has.unpack (kept a) e
    kept has.empty_set = has.empty_set

    all_kept : {g : _} {k l : Known} {xs : Row_of-Expr g} {done ys : List Expr × List Ty} → HaveTypes s _ k xs done ys l → HaveTypes more _ k xs done ys l
    all_kept has.no_more = has.no_more
    all_kept (has.one_more a b) = has.one_more (kept a) (all_kept b)

    scopes_kept : {g : _} {k l : Known} {xs : Row_of-Scope g} {done ys : List Scope × List Ty} → ScopesHaveTypes s _ k xs done ys l → ScopesHaveTypes more _ k xs done ys l
    scopes_kept has.no_scope = has.no_scope
    scopes_kept (has.one_scope a b) = has.one_scope (kept a) (scopes_kept b)

    aliases_kept : {g : _} {k l : Known} {xs : Row_of-Alias g} {done ys : List Alias} → AliasesHaveTypes s _ k xs done ys l → AliasesHaveTypes more _ k xs done ys l
    aliases_kept has.no_alias = has.no_alias
    aliases_kept (has.one_alias a b) = has.one_alias (kept a) (aliases_kept b)

    elements_kept : {g : _} {k l : Known} {xs : Row_of-Element g} {done ys : List Element} → ElementsHaveTypes s _ k xs done ys l → ElementsHaveTypes more _ k xs done ys l
    elements_kept has.no_element = has.no_element
    elements_kept (has.one_element a b) = has.one_element (kept a) (elements_kept b)

    keys_kept : {g : _} {k l : Known} {xs : Row_of-Key g} {done ys : List Key} → KeysHaveTypes s _ k xs done ys l → KeysHaveTypes more _ k xs done ys l
    keys_kept has.no_key = has.no_key
    keys_kept (has.one_key a b) = has.one_key (key_kept a) (keys_kept b)

    key_kept : {k l : Known} {x y : Key} → KeyHasType s k x y l → KeyHasType more k x y l
    key_kept (has.ascending a e) = has.ascending (kept a) e
    key_kept (has.descending a e) = has.descending (kept a) e

    clause_kept : {r : Clause} {k l : Known} {f : Held-Select-filter} {o : Option Scope} → ClauseHasType s r k f o l → ClauseHasType more r k f o l
    clause_kept has.absent = has.absent
    clause_kept (has.present a e) = has.present (kept a) e

  -- ---- the schema

  module _ (typed : IsTypedSchema s) (own : IsOfOrigin s c) (new : Each (λ (d : Computed). d.pointer.0 ≢ c.pointer.0) s.computed) where
    origin_kept : (d : Computed) → IsOfOrigin s d → IsOfOrigin more d
    origin_kept d h info e =
        let q = at d.pointer.0 in
        let w = was_there q.0 (slice_get s.pointers d.pointer.0) info (sym q.1 ∙ e) in
        h w.0 w.1 ∙ ap (λ (i : PtrInfo). Some i.origin) w.2

    origins_kept : (cs : List Computed) → Each (IsOfOrigin s) cs → Each (IsOfOrigin more) (cs ++ c ∷ [])
    origins_kept [] h = (origin_kept c own, tt)
    origins_kept (d ∷ cs) h = (origin_kept d h.0, origins_kept cs h.1)

    listed_kept : (a : TypeId) (p : PtrId) (info : PtrInfo) → IsTrue (lists s a p) → slice_get more.pointers p.0 ≡ Some info → IsTrue (is_subtype s.types a info.origin)
    listed_kept a p info h e =
        let q = at p.0 in
        let w = was_there q.0 (slice_get s.pointers p.0) info (sym q.1 ∙ e) in
        subst (λ (i : PtrInfo). IsTrue (is_subtype s.types a i.origin)) w.2 (typed.listed a p w.0 h w.1)

    properties_kept : (p : PtrId) (info : PtrInfo) → slice_get more.pointers p.0 ≡ Some info → AllPairs (λ (q r : LinkProperty). q.name ≢ r.name) info.link_props
    properties_kept p info e =
        let q = at p.0 in
        let w = was_there q.0 (slice_get s.pointers p.0) info (sym q.1 ∙ e) in
        subst (λ (i : PtrInfo). AllPairs (λ (q r : LinkProperty). q.name ≢ r.name) i.link_props) w.2 (typed.properties p w.0 w.1)

    id_kept_stored : (p : PtrId) → IsTrue (is_id more.pointers p) → type_stored (slice_get more.pointers p.0) ≡ Some (made.Scalar scalar.Uuid)
    id_kept_stored p h = stored_at p ∙ typed.id p (subst (λ k. IsTrue (suc p.0 == k)) length_kept h)

    once_kept : AllPairs (λ (d e : Computed). d.pointer.0 ≢ e.pointer.0) (s.computed ++ c ∷ [])
    once_kept = all_pairs_push (λ (d e : Computed). d.pointer.0 ≢ e.pointer.0) s.computed c typed.once (each_at (λ (d : Computed). d.pointer.0 ≢ c.pointer.0) s.computed new)

    schema_kept : IsTypedSchema more
    schema_kept = record {
      extends = typed.extends;
      id = id_kept_stored;
      listed = listed_kept;
      subjects = origins_kept s.computed typed.subjects;
      once = once_kept;
      properties = properties_kept;
    }

tree_kept : (s : Schema) (c : Computed) (core : Core) (typed : Typed) → HasTypes s core typed → HasTypes (with_computed c s) core typed
tree_kept s c core typed (x, l, d, is) = (x, l, kept s c d, is)

pub types_are_kept : TypesAreKept
types_are_kept = record { of_trees = tree_kept; of_schemas = λ s c typed own new. schema_kept s c typed own new }
