-- The targets that are made of a link where none of its rules fails.
use Rattle.std.proofs.Common.{◌≡◌, ◌≢◌, ℕ, suc, ◌==◌, nat_lt, Bool, true, false, not, ◌||◌, List, [], ◌∷◌, ◌++◌, length, map, flat_map, Option, Some, None, is_none, option_map, cond, eq-eqb, refl, sym, ap, ◌∙◌, subst}
use Rattle.std.specs.List.{list_any, Contains}
use Rattle.std.specs.Ordering.{is_lt}
use Rattle.core_ir.specs.declared.path.TypeId.{TypeId}
use Rattle.core_ir.specs.declared.ty.Ty.TheVariants as ty
use Rattle.ev_list.specs.Order.{in_order, keyless}
use Rattle.ev_schema.specs.Policies.{by_name}
use Rattle.ev_schema.specs.Types.{is_subtype}
use Rattle.ev_schema.specs.declared.pointer.LinkProperty.{LinkProperty}
use Rattle.ev_schema.specs.declared.pointer.PtrInfo.{PtrInfo}
use Rattle.ev_schema.specs.declared.schema.Schema.{Schema}
use Rattle.ev_schema.specs.declared.types.TypeInfo.{TypeInfo}
use Rattle.ev_value.specs.declared.value.Val.{Val}
use Rattle.ev_value.specs.declared.value.Val.TheVariants as val
use Rattle.db_store.specs.Fits.{Each, Ascend, text_before, FitsProperty, FitsTarget, FitsValue}
use Rattle.db_store.specs.Objects.{find}
use Rattle.db_store.specs.declared.object.LinkValue.{LinkValue}
use Rattle.db_store.specs.declared.object.Object.{Object}
use Rattle.db_store.specs.declared.object.PtrValue.TheVariants as value
use Rattle.db_store.specs.declared.object.Target.{Target}
use Rattle.db_draft.specs.First.{or_else, when}
use Rattle.db_draft.specs.Values.{value_of}
use Rattle.db_draft.specs.declared.draft.Element.{Element}
use Rattle.db_draft.specs.declared.draft.Field.{Field}
use Rattle.db_draft.specs.declared.draft.Plain.{Plain}
use Rattle.db_draft.specs.declared.refusal.Rule.{Rule}
use Rattle.db_draft.specs.declared.refusal.Rule.TheVariants as rule
use Rattle.db_ids.specs.declared.heads.Head.{Head}
use Rattle.db_values.specs.Elements.{is_lacking}
use Rattle.db_values.specs.Links.{alone, target_id, fields_of, is_unknown, is_ill, leads_to, leads, id_list, ids_of, repeated, target_flaw, repeat_flaw_of, repeat_flaw, link_flaw}
use Rattle.db_values.specs.Made.{property_in, property_value, properties_of, target_with, keyed_targets, targets_of}
use Rattle.db_values.specs.Properties.{value_in}
use Rattle.db_check.proofs.Contained.{each_contained}
use Rattle.db_check.proofs.IdOrder.{each_more, ascend_more, lt_is, ids_cmp}
use Rattle.db_check.proofs.NoFlaw.{neither_of, not_when, none_mapped, not_false, neither, each_not, not_joined}
use Rattle.db_check.proofs.Pieces.{OneAtMost, each_flat, ascend_flat}
use Rattle.db_check.proofs.PropertyValues.{Typed, value_typed}
use Rattle.db_check.proofs.Sorted.{keyed, all_keyed, sorted, earlier, sorted_is, each_sorted, length_sorted, KeysDiffer, ascend_sorted}

-- ---- the properties of a link at one target

abbrev piece : List Field → LinkProperty → List LinkValue
piece fs p = property_value p (property_in fs p.name)

pieces_are : (ps : List LinkProperty) (fs : List Field) → properties_of ps fs ≡ flat_map (piece fs) ps
pieces_are [] fs = refl
pieces_are (p ∷ more) fs = ap (λ l. piece fs p ++ l) (pieces_are more fs)

abbrev OfName : LinkProperty → LinkValue → Type 0
OfName p v = v.name ≡ p.name

one_value : (p : LinkProperty) (o : Option Val) → OneAtMost (OfName p) (map (λ x. record { name = p.name; value = x }) (value_in o))
one_value p None = tt
one_value p (Some x) = refl

one_if_written : (p : LinkProperty) (o : Option Plain) → OneAtMost (OfName p) (property_value p o)
one_if_written p None = tt
one_if_written p (Some v) = one_value p (value_of p.ty v)

properties_ascend : (ps : List LinkProperty) (fs : List Field) → Ascend (λ (a b : LinkProperty). text_before a.name b.name) ps → Ascend (λ (a b : LinkValue). text_before a.name b.name) (properties_of ps fs)
properties_ascend ps fs up =
    subst (Ascend (λ (a b : LinkValue). text_before a.name b.name)) (sym (pieces_are ps fs))
    (ascend_flat (piece fs) OfName (λ p. one_if_written p (property_in fs p.name)) (λ (a b : LinkProperty). text_before a.name b.name) (λ (a b : LinkValue). text_before a.name b.name)
    (λ a c b d r q h. (λ i. text_before (r i) (q i)) ∙ h) ps up)

module _ (s : Schema) (declared : List LinkProperty) where
  value_fits : (p : LinkProperty) → Contains declared p → (o : Option Val) → Typed p.ty o → Each (FitsProperty s declared) (map (λ x. record { name = p.name; value = x }) (value_in o))
  value_fits p c None h = tt
  value_fits p c (Some x) h = ((p, c, refl, h), tt)

  written_fits : (p : LinkProperty) → Contains declared p → (o : Option Plain) → Each (FitsProperty s declared) (property_value p o)
  written_fits p c None = tt
  written_fits p c (Some v) = value_fits p c (value_of p.ty v) (value_typed p.ty v)

  properties_fit : (fs : List Field) → Each (FitsProperty s declared) (properties_of declared fs)
  properties_fit fs =
      subst (Each (FitsProperty s declared)) (sym (pieces_are declared fs))
      (each_flat (piece fs) (Contains declared) (FitsProperty s declared) (λ p c. written_fits p c (property_in fs p.name)) declared (each_contained declared))

-- ---- ids that differ

abbrev Distinct : List ℕ → Type 0
Distinct [] = Unit {0}
Distinct (n ∷ more) = Each (λ m. n ≢ m) more × Distinct more

no_both : (b : Bool) → b ≡ true → b ≡ false → ⊥
no_both b e f = cc

differs : (m n : ℕ) → ((m == n) || false) ≡ false → m ≢ n
differs m n h e = no_both (m == n) (eq-eqb m n e) (neither (m == n) false h).0

none_repeated : (before ids : List ℕ) → repeated before ids ≡ None → Each (λ id. list_any (λ x. x == id) before ≡ false) ids × Distinct ids
none_repeated before [] h = (tt, tt)
none_repeated before (id ∷ more) h = by_test (list_any (λ x. x == id) before) refl h (none_repeated (before ++ id ∷ []) more)
  where
    by_test : (b : Bool) → list_any (λ x. x == id) before ≡ b → cond b (Some id) (repeated (before ++ id ∷ []) more) ≡ None
        → (repeated (before ++ id ∷ []) more ≡ None → Each (λ j. list_any (λ x. x == j) (before ++ id ∷ []) ≡ false) more × Distinct more)
        → Each (λ j. list_any (λ x. x == j) before ≡ false) (id ∷ more) × Distinct (id ∷ more)
    by_test true e h later = absurd (cc)
    by_test false e h later =
        let is = later h in (
          (e, each_more (λ j. list_any (λ x. x == j) (before ++ id ∷ []) ≡ false) (λ j. list_any (λ x. x == j) before ≡ false) (λ j g. (not_joined (λ x. x == j) before (id ∷ []) g).0) more is.0),
          (each_more (λ j. list_any (λ x. x == j) (before ++ id ∷ []) ≡ false) (λ j. id ≢ j) (λ j g. differs id j (not_joined (λ x. x == j) before (id ∷ []) g).1) more is.0, is.1),
        )

-- ---- targets

abbrev by_target : Target → Val
by_target t = val.Id t.id

module _ (ps : List LinkProperty) where
  abbrev target_if : List Field → Option ℕ → List Target
  target_if fs None = []
  target_if fs (Some id) = record { id = id; properties = properties_of ps fs } ∷ []

  -- the targets that elements name, in the order of the elements
  abbrev targets_written : List Element → List Target
  targets_written [] = []
  targets_written (e ∷ more) = target_if (fields_of e) (target_id e) ++ targets_written more

  keyed_are : (es : List Element) → keyed_targets ps es ≡ all_keyed by_target (targets_written es)
  keyed_are [] = refl
  keyed_are (e ∷ more) = by_id (target_id e) (keyed_are more)
    where
      by_id : (o : Option ℕ) → keyed_targets ps more ≡ all_keyed by_target (targets_written more)
          → target_with ps (fields_of e) o ++ keyed_targets ps more ≡ all_keyed by_target (target_if (fields_of e) o ++ targets_written more)
      by_id None is = is
      by_id (Some id) is = ap (λ l. keyed by_target (record { id = id; properties = properties_of ps (fields_of e) }) ∷ l) is

  targets_are : (es : List Element) → targets_of ps es ≡ sorted by_target (targets_written es)
  targets_are es = ap (λ l. keyless (in_order by_name l)) (keyed_are es) ∙ sorted_is by_target (targets_written es)

  ids_are : (es : List Element) → ids_of es ≡ map (λ (t : Target). t.id) (targets_written es)
  ids_are [] = refl
  ids_are (e ∷ more) = by_id (target_id e) (ids_are more)
    where
      by_id : (o : Option ℕ) → ids_of more ≡ map (λ (t : Target). t.id) (targets_written more)
          → id_list o ++ ids_of more ≡ map (λ (t : Target). t.id) (target_if (fields_of e) o ++ targets_written more)
      by_id None is = is
      by_id (Some id) is = ap (λ l. id ∷ l) is

  as_many : (es : List Element) → list_any (λ e. is_none (target_id e)) es ≡ false → length (targets_written es) ≡ length es
  as_many [] h = refl
  as_many (e ∷ more) h =
      let both = neither (is_none (target_id e)) (list_any (λ e. is_none (target_id e)) more) h in
      by_id (target_id e) both.0 (as_many more both.1)
    where
      by_id : (o : Option ℕ) → is_none o ≡ false → length (targets_written more) ≡ length more → length (target_if (fields_of e) o ++ targets_written more) ≡ suc (length more)
      by_id None n is = absurd (cc)
      by_id (Some id) n is = ap suc is

apart : (t : Target) (ts : List Target) → Each (λ m. t.id ≢ m) (map (λ (u : Target). u.id) ts) → Each (λ u. by_target t ≢ by_target u) ts
apart t [] h = tt
apart t (u ∷ more) h = ((λ e. let same : t.id ≡ u.id = cc in h.0 same), apart t more h.1)

keys_differ : (ts : List Target) → Distinct (map (λ (u : Target). u.id) ts) → KeysDiffer by_target ts
keys_differ [] h = tt
keys_differ (t ∷ more) h = (apart t more h.0, keys_differ more h.1)

ids_ascend : (ts : List Target) → Distinct (map (λ (u : Target). u.id) ts) → Ascend (λ (a b : Target). nat_lt a.id b.id) (sorted by_target ts)
ids_ascend ts h =
    ascend_more (earlier by_target) (λ (a b : Target). nat_lt a.id b.id)
    (λ a b g. sym (lt_is a.id b.id) ∙ ap is_lt (sym (ids_cmp a.id b.id)) ∙ g) (sorted by_target ts) (ascend_sorted by_target ts (keys_differ ts h))

no_repeat : (heads : List Head) (o : Option ℕ) → repeat_flaw_of heads o ≡ None → o ≡ None
no_repeat heads None e = refl
no_repeat heads (Some id) e = absurd (cc)

module _ (types : List TypeInfo) (heads : List Head) (info : PtrInfo) (t : TypeId) (es : List Element) where
  abbrev nameless : Bool
  nameless = list_any (λ e. is_none (target_id e)) es

  abbrev unknown : Option Rule
  unknown = when (list_any (λ e. list_any (is_unknown info.link_props) (fields_of e)) es) rule.X6

  abbrev ill : Option Rule
  ill = when (list_any (λ e. list_any (is_ill info.link_props) (fields_of e)) es) rule.X7

  abbrev lacking : Option Rule
  lacking = when (is_lacking info.card es) rule.X8

  abbrev astray : Bool
  astray = list_any (λ e. not (leads types heads t e)) es

  -- where none of the rules on a link fails, each element names a target that is there, no target stands twice, and none is lacking
  pub link_passes : link_flaw types heads info t es ≡ None
      → (list_any (λ e. is_none (target_id e)) es ≡ false) × (is_lacking info.card es ≡ false) × Each (λ e. leads types heads t e ≡ true) es × (repeated [] (ids_of es) ≡ None)
  link_passes h =
      let parts = neither_of (option_map alone (target_flaw info es)) (or_else (when astray (alone rule.X10)) (repeat_flaw heads es)) h in
      let first = neither_of (when nameless rule.X3) (or_else unknown (or_else ill lacking)) (none_mapped alone (target_flaw info es) parts.0) in
      let last = neither_of ill lacking (neither_of unknown (or_else ill lacking) first.1).1 in
      let others = neither_of (when astray (alone rule.X10)) (repeat_flaw heads es) parts.1 in (
        not_when nameless rule.X3 first.0,
        not_when (is_lacking info.card es) rule.X8 last.1,
        each_more (λ e. not (leads types heads t e) ≡ false) (λ e. leads types heads t e ≡ true) (λ e g. not_false (leads types heads t e) g) es
            (each_not (λ e. not (leads types heads t e)) es (not_when astray (alone rule.X10) others.0)),
        no_repeat heads (repeated [] (ids_of es)) others.1,
      )

module _ (s : Schema) (heads : List Head) (os : List Object)
    (found : (id : ℕ) (t : TypeId) → leads_to s.types heads t (Some id) ≡ true → (o : Object) × (find os id ≡ Some o) × (is_subtype s.types o.ty t ≡ true)) where
  targets_fit : (info : PtrInfo) (t : TypeId) → Ascend (λ (a b : LinkProperty). text_before a.name b.name) info.link_props
      → (es : List Element) → Each (λ e. leads s.types heads t e ≡ true) es → Each (FitsTarget s os info t) (targets_written info.link_props es)
  targets_fit info t up [] h = tt
  targets_fit info t up (e ∷ more) h = by_id (target_id e) h.0 (targets_fit info t up more h.1)
    where
      by_id : (o : Option ℕ) → leads_to s.types heads t o ≡ true → Each (FitsTarget s os info t) (targets_written info.link_props more)
          → Each (FitsTarget s os info t) (target_if info.link_props (fields_of e) o ++ targets_written info.link_props more)
      by_id None l is = is
      by_id (Some id) l is = ((found id t l, properties_ascend info.link_props (fields_of e) up, properties_fit s info.link_props (fields_of e)), is)

  -- the targets that are stored of a link fit, and there are as many as elements
  pub links_fit : (info : PtrInfo) (t : TypeId) (es : List Element) → Ascend (λ (a b : LinkProperty). text_before a.name b.name) info.link_props → link_flaw s.types heads info t es ≡ None
      → FitsValue s os info (ty.Object t) (value.Links (targets_of info.link_props es)) × (length (targets_of info.link_props es) ≡ length es)
  links_fit info t es up h =
      let passes = link_passes s.types heads info t es h in
      let ts = targets_written info.link_props es in
      let distinct = subst Distinct (ids_are info.link_props es) (none_repeated [] (ids_of es) passes.3).1 in
      subst (λ l. FitsValue s os info (ty.Object t) (value.Links l) × (length l ≡ length es)) (sym (targets_are info.link_props es)) (
        (ids_ascend ts distinct, each_sorted by_target (FitsTarget s os info t) ts (targets_fit info t up es passes.2)),
        length_sorted by_target ts ∙ as_many info.link_props es passes.0,
      )
