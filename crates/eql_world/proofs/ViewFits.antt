-- The view of objects that fit fits within the bounds that a caller sees.
use Rattle.std.proofs.Common.{◌≡◌, ℕ, zero, suc, ◌==◌, ◌<◌, ◌≤◌, nat_lt, Bool, true, false, ◌&&◌, List, [], ◌∷◌, length, map, filter, flat_map, Option, Some, None, refl, sym, ap, ◌∙◌, subst, arith, if◌then◌else◌, slice_get}
use Rattle.std.proofs.lemmas.Bool.{eqb-true, ltb-false}
use Rattle.std.proofs.lemmas.Bool.Decides.{Decides-ltb}
use Rattle.ev_value.specs.declared.args.Args.{Args}
use Rattle.ev_value.specs.declared.value.Val.{Val}
use Rattle.ev_value.specs.declared.value.Val.TheVariants as made
use Rattle.ev_list.specs.Order.{in_order, keyless}
use Rattle.ev_list.specs.declared.order.Keyed.{Keyed}
use Rattle.core_ir.specs.Card.{Within, most, card_with}
use Rattle.core_ir.specs.declared.card.Card.{Card}
use Rattle.core_ir.specs.declared.card.Card.TheVariants as card
use Rattle.core_ir.specs.declared.path.PtrId.{PtrId}
use Rattle.core_ir.specs.declared.path.TypeId.{TypeId}
use Rattle.core_ir.specs.declared.ty.Ty.{Ty}
use Rattle.core_ir.specs.declared.ty.Ty as ty
use Rattle.ev_schema.specs.declared.pointer.Body.{Body}
use Rattle.ev_schema.specs.declared.pointer.Body.TheVariants as body
use Rattle.ev_schema.specs.declared.pointer.PtrInfo.{PtrInfo}
use Rattle.ev_schema.specs.declared.policy.Policy.{Policy}
use Rattle.ev_schema.specs.declared.schema.Schema.{Schema}
use Rattle.ev_schema.specs.declared.types.TypeInfo.{TypeInfo}
use Rattle.ev_schema.specs.Pointers.{weakened, weakened_by, target_of}
use Rattle.ev_schema.specs.Policies.{by_name, named_rules, has_rules, governed_below, name_if_known}
use Rattle.ev_schema.specs.Types.{is_subtype}
use Rattle.db_store.specs.declared.object.Entry.{Entry}
use Rattle.db_store.specs.declared.object.Object.{Object}
use Rattle.db_store.specs.declared.object.PtrValue.{PtrValue}
use Rattle.db_store.specs.declared.object.PtrValue.TheVariants as value
use Rattle.db_store.specs.declared.object.Target.{Target}
use Rattle.db_store.specs.Fits.{Each, Ascend, stored_type, FitsTarget, FitsValue, FitsEntry, entry_before, FitsObject, Fits, WeakFits}
use Rattle.db_store.specs.Limits.{same}
use Rattle.db_store.specs.Objects.{find, entry, led_to_if_stored, items_at}
use Rattle.eql_world.specs.View.{cut_targets, cut_value, cut_entry, is_filled, cut, shown, shown_by, is_shown, seen}
use Rattle.eql_world.specs.Laws.{ViewFitsWeakly}
use Rattle.eql_world.proofs.Lists.{each_kept, each_made, each_filter, each_weaker, ascend_kept, ascend_made, ascend_filter, part_length, repeat_part, filter_all, or_left, or_right}
use Rattle.eql_world.proofs.Cuts.{cut_if, some_same, filled, cut_items, part_stored, flat_part, find_kept}

-- ---- bounds

-- fewer items lie within the same bounds with none at least
loosened : (c : Card) (n m : ℕ) → m ≤ n → Within c n → Within (card_with 0 (most c)) m
loosened card.Empty n m le w = (omega arith, omega (arith, le, w.1))
loosened card.AtMostOne n m le w = (omega arith, omega (arith, le, w.1))
loosened card.One n m le w = (omega arith, omega (arith, le, w.1))
loosened card.AtLeastOne n m le w = (omega arith, tt)
loosened card.Many n m le w = (omega arith, tt)

-- ---- a type without rules

within_get : {A : Type 0} (xs : List A) (k : ℕ) (x : A) → slice_get xs k ≡ Some x → k < length xs
within_get [] k x e = let clash : ◌≡◌ {A = Option _} None (Some x) = e in absurd cc
within_get (y ∷ xs) zero x e = omega arith
within_get (y ∷ xs) (suc k) x e = omega (arith, within_get xs k x e)

no_rules_at : (types : List TypeInfo) (t : TypeId) (k : ℕ) (p : Policy) (ps : List Policy) (b : Bool) → b ≡ false → named_rules types t (suc k) ps ≡ []
    → (if b then record { keys = name_if_known (slice_get types p.origin.0) ∷ []; value = k } ∷ named_rules types t (suc k) ps else named_rules types t (suc k) ps) ≡ []
no_rules_at types t k p ps true e later = let clash : true ≡ false = e in absurd cc
no_rules_at types t k p ps false e later = later

no_rules : (types : List TypeInfo) (t : TypeId) (k : ℕ) (ps : List Policy) → has_rules types ps t ≡ false → named_rules types t k ps ≡ []
no_rules types t k [] e = refl
no_rules types t k (p ∷ ps) e =
    no_rules_at types t k p ps (is_subtype types t p.origin) (or_left (is_subtype types t p.origin) (has_rules types ps t) e) (no_rules types t (suc k) ps (or_right (is_subtype types t p.origin) (has_rules types ps t) e))

-- an object of a type without rules is shown
shown_without : (s : Schema) (os : List Object) (args : Args) (o : Object) → has_rules s.types s.policies o.ty ≡ false → shown s os args o ≡ true
shown_without s os args o e =
    ap (λ (l : List (Keyed ℕ)). shown_by s os args (keyless (in_order by_name l)) o) (no_rules s.types o.ty 0 s.policies e)

and_right : (a b : Bool) → a && b ≡ false → a ≡ true → b ≡ false
and_right true b e h = e
and_right false b e h = let clash : false ≡ true = h in absurd cc

abbrev type_at : ℕ → TypeId
type_at k = record { 0 = k }

ungoverned_step : (types : List TypeInfo) (ps : List Policy) (t : TypeId) (n k : ℕ) (b : Bool) → nat_lt k n ≡ b → k < suc n
    → (is_subtype types (type_at n) t && has_rules types ps (type_at n)) ≡ false
    → (k < n → (is_subtype types (type_at k) t && has_rules types ps (type_at k)) ≡ false)
    → (is_subtype types (type_at k) t && has_rules types ps (type_at k)) ≡ false
ungoverned_step types ps t n k true less lt here later = later ((Decides-ltb k n).0 less)
ungoverned_step types ps t n k false less lt here later =
    let same : n ≡ k = omega (arith, lt, ltb-false k n less) in
    subst (λ (m : ℕ). (is_subtype types (type_at m) t && has_rules types ps (type_at m)) ≡ false) same here

ungoverned_at : (types : List TypeInfo) (ps : List Policy) (t : TypeId) (n k : ℕ) → governed_below types ps t n ≡ false → k < n → (is_subtype types (type_at k) t && has_rules types ps (type_at k)) ≡ false
ungoverned_at types ps t zero k e lt = absurd (omega (arith, lt))
ungoverned_at types ps t (suc n) k e lt =
    ungoverned_step types ps t n k (nat_lt k n) refl lt
    (or_left (is_subtype types (type_at n) t && has_rules types ps (type_at n)) (governed_below types ps t n) e)
    (ungoverned_at types ps t n k (or_right (is_subtype types (type_at n) t && has_rules types ps (type_at n)) (governed_below types ps t n) e))

-- P of an object that is found among objects of which each has P
found_has_at : (P : Object → Type 0) (x o : Object) (os : List Object) (id : ℕ) (b : Bool) → (if b then Some x else find os id) ≡ Some o → P x → (find os id ≡ Some o → P o) → P o
found_has_at P x o os id true is here later = subst P (some_same x o is) here
found_has_at P x o os id false is here later = later is

found_has : (P : Object → Type 0) (os : List Object) (id : ℕ) (o : Object) → find os id ≡ Some o → Each P os → P o
found_has P [] id o is all = let clash : ◌≡◌ {A = Option Object} None (Some o) = is in absurd cc
found_has P (x ∷ os) id o is all = found_has_at P x o os id (x.id == id) is all.0 (λ h. found_has P os id o h all.1)

module _ (s : Schema) (os : List Object) (args : Args) (fits : Fits s os) where
  abbrev sees : ℕ → Bool
  sees = seen s os args

  abbrev keep : Object → Bool
  keep = shown s os args

  abbrev view : List Object
  view = map (cut sees) (filter keep os)

  abbrev declared : PtrInfo → Card
  declared info = info.card

  -- an object of a type below which no rules hold is shown
  ungoverned_shown : (t : TypeId) (o : Object) → governed_below s.types s.policies t (length s.types) ≡ false → FitsObject s declared os o → is_subtype s.types o.ty t ≡ true → keep o ≡ true
  ungoverned_shown t o e f is =
      let within : o.ty.0 < length s.types = within_get s.types o.ty.0 f.known.0 f.known.1 in
      shown_without s os args o (and_right (is_subtype s.types o.ty t) (has_rules s.types s.policies o.ty) (ungoverned_at s.types s.policies t (length s.types) o.ty.0 e within) is)

  -- ---- targets

  found_seen : (id : ℕ) (o : Object) → find os id ≡ Some o → sees id ≡ keep o
  found_seen id o is = ap (is_shown s os args) is

  fits_target : (info : PtrInfo) (t : TypeId) (target : Target) → sees target.id ≡ true → FitsTarget s os info t target → FitsTarget s view info t target
  fits_target info t target h f =
      let kept : keep f.0.0 ≡ true = sym (found_seen target.id f.0.0 f.0.1) ∙ h in
      ((cut sees f.0.0, find_kept s sees keep os target.id f.0.0 f.0.1 kept, f.0.2), f.1, f.2)

  all_seen : (info : PtrInfo) (t : TypeId) (ts : List Target) → governed_below s.types s.policies t (length s.types) ≡ false → Each (FitsTarget s os info t) ts → cut_targets sees ts ≡ ts
  all_seen info t ts e all =
      filter_all (λ (target : Target). sees target.id) ts
      (each_weaker (FitsTarget s os info t) (λ (target : Target). sees target.id ≡ true)
      (λ target f. found_seen target.id f.0.0 f.0.1 ∙ ungoverned_shown t f.0.0 e (found_has (FitsObject s declared os) os target.id f.0.0 f.0.1 fits.each) f.0.2) ts all)

  -- ---- what is stored of a pointer

  fits_value : (info : PtrInfo) (u : Ty) (v : PtrValue) → FitsValue s os info u v → FitsValue s view info u (cut_value sees v)
  fits_value info (ty.Scalar t) (value.Vals vs) f = f
  fits_value info (ty.Scalar t) (value.Links ts) f = absurd f
  fits_value info (ty.Object t) (value.Vals vs) f = absurd f
  fits_value info (ty.Object t) (value.Links ts) f =
      (ascend_filter (λ (a b : Target). nat_lt a.id b.id) (λ (target : Target). sees target.id) ts f.0, each_filter (FitsTarget s os info t) (FitsTarget s view info t) (λ (target : Target). sees target.id) (fits_target info t) ts f.1)
  fits_value info (ty.Tuple' m ps) (value.Vals vs) f = absurd f
  fits_value info (ty.Tuple' m ps) (value.Links ts) f = absurd f
  fits_value info (ty.Array t) (value.Vals vs) f = f
  fits_value info (ty.Array t) (value.Links ts) f = absurd f

  fits_entry : (t : TypeId) (e : Entry) → is_filled (cut_value sees e.value) ≡ true → FitsEntry s os t e → FitsEntry s view t (cut_entry sees e)
  fits_entry t e h f = (f.0, (f.1.0, f.1.1, (f.1.2.0, f.1.2.1, fits_value f.1.0 f.1.2.0 e.value f.1.2.2)), filled (cut_value sees e.value) h)

  -- ---- bounds

  abbrev FitsIf : PtrInfo → Ty → Option PtrValue → Type 0
  FitsIf info u None = Unit {0}
  FitsIf info u (Some v) = FitsValue s os info u v

  entry_fits_at : (t : TypeId) (e : Entry) (es : List Entry) (p : PtrId) (info : PtrInfo) (u : Ty) (b : Bool) → e.pointer.0 == p.0 ≡ b → slice_get s.pointers p.0 ≡ Some info → stored_type info.body ≡ Some u
      → FitsEntry s os t e → FitsIf info u (entry es p) → FitsIf info u (if b then Some e.value else entry es p)
  entry_fits_at t e es p info u true is at stored f later =
      let one : f.1.0 ≡ info = some_same f.1.0 info (sym f.1.1 ∙ ap (slice_get s.pointers) (eqb-true e.pointer.0 p.0 is) ∙ at) in
      let other : f.1.2.0 ≡ u = some_same f.1.2.0 u (sym f.1.2.1 ∙ ap (λ (i : PtrInfo). stored_type i.body) one ∙ stored) in
      subst (λ (i : PtrInfo). FitsValue s os i u e.value) one (subst (λ (w : Ty). FitsValue s os f.1.0 w e.value) other f.1.2.2)
  entry_fits_at t e es p info u false is at stored f later = later

  entry_fits : (t : TypeId) (es : List Entry) (p : PtrId) (info : PtrInfo) (u : Ty) → slice_get s.pointers p.0 ≡ Some info → stored_type info.body ≡ Some u → Each (FitsEntry s os t) es → FitsIf info u (entry es p)
  entry_fits t [] p info u at stored all = tt
  entry_fits t (e ∷ es) p info u at stored all = entry_fits_at t e es p info u (e.pointer.0 == p.0) refl at stored all.0 (entry_fits t es p info u at stored all.1)

  link_within : (info : PtrInfo) (t : TypeId) (c : Card) (v : Option PtrValue) (g : Bool) → governed_below s.types s.policies t (length s.types) ≡ g → FitsIf info (ty.Object t) v
      → Within c (length (led_to_if_stored v)) → Within (if g then card_with 0 (most c) else c) (length (led_to_if_stored (cut_if sees v)))
  link_within info t c v true e f w = loosened c (length (led_to_if_stored v)) (length (led_to_if_stored (cut_if sees v))) (part_length (led_to_if_stored (cut_if sees v)) (led_to_if_stored v) (part_stored s sees v)) w
  link_within info t c None false e f w = w
  link_within info t c (Some (value.Vals vs)) false e f w = absurd f
  link_within info t c (Some (value.Links ts)) false e f w =
      subst (λ (l : List Target). Within c (length (map (λ (target : Target). made.Obj target.id) l))) (sym (all_seen info t ts e f.1)) w

  type_within : (info : PtrInfo) (c : Card) (u : Ty) (v : Option PtrValue) → FitsIf info u v → Within c (length (led_to_if_stored v))
      → Within (weakened_by s c (target_of (body.Stored u))) (length (led_to_if_stored (cut_if sees v)))
  type_within info c (ty.Scalar t) None f w = w
  type_within info c (ty.Scalar t) (Some (value.Vals vs)) f w = w
  type_within info c (ty.Scalar t) (Some (value.Links ts)) f w = absurd f
  type_within info c (ty.Object t) v f w = link_within info t c v (governed_below s.types s.policies t (length s.types)) refl f w
  type_within info c (ty.Tuple' m ps) None f w = w
  type_within info c (ty.Tuple' m ps) (Some (value.Vals vs)) f w = absurd f
  type_within info c (ty.Tuple' m ps) (Some (value.Links ts)) f w = absurd f
  type_within info c (ty.Array t) None f w = w
  type_within info c (ty.Array t) (Some (value.Vals vs)) f w = w
  type_within info c (ty.Array t) (Some (value.Links ts)) f w = absurd f

  body_within : (info : PtrInfo) (c : Card) (b : Body) (u : Ty) (v : Option PtrValue) → stored_type b ≡ Some u → FitsIf info u v → Within c (length (led_to_if_stored v))
      → Within (weakened_by s c (target_of b)) (length (led_to_if_stored (cut_if sees v)))
  body_within info c (body.Stored t) u v stored f w =
      type_within info c t v (subst (λ (x : Ty). FitsIf info x v) (sym (some_same t u stored)) f) w
  body_within info c body.Computed u v stored f w = let clash : ◌≡◌ {A = Option Ty} None (Some u) = stored in absurd cc

  -- ---- objects

  fits_object : (o : Object) → FitsObject s declared os o → FitsObject s (weakened s) view (cut sees o)
  fits_object o f = record {
    known = f.known;
    in_order = ascend_made (entry_before s) (entry_before s) (cut_entry sees) (λ (e : Entry). is_filled e.value) (λ x y h. h) o.values f.in_order;
    entries = each_made (FitsEntry s os o.ty) (FitsEntry s view o.ty) (cut_entry sees) (λ (e : Entry). is_filled e.value) (fits_entry o.ty) o.values f.entries;
    within = λ p info u listed at stored.
        subst (λ (l : List Val). Within (weakened s info) (length l)) (sym (cut_items s sees o.values p f.in_order))
        (body_within info info.card info.body u (entry o.values p) stored (entry_fits o.ty o.values p info u at stored f.entries) (f.within p info u listed at stored));
  }

  pub view_fits : WeakFits s view
  view_fits = record {
    in_order = ascend_kept (λ (a b : Object). nat_lt a.id b.id) (λ (a b : Object). nat_lt a.id b.id) (cut sees) keep (λ x y h. h) os fits.in_order;
    each = each_kept (FitsObject s declared os) (FitsObject s (weakened s) view) (cut sees) keep (λ o k f. fits_object o f) os fits.each;
    once = λ p info at exclusive.
        repeat_part same (flat_map (λ (o : Object). items_at o p) (filter (λ (o : Object). is_subtype s.types o.ty info.origin) view)) (flat_map (λ (o : Object). items_at o p) (filter (λ (o : Object). is_subtype s.types o.ty info.origin) os))
        (flat_part s sees p (λ (o : Object). is_subtype s.types o.ty info.origin) (λ o. refl) keep os
        (each_weaker (FitsObject s declared os) (λ (o : Object). Ascend (entry_before s) o.values) (λ o f. f.in_order) os fits.each))
        (fits.once p info at exclusive);
  }

pub view_fits_weakly : ViewFitsWeakly
view_fits_weakly s os args fits = view_fits s os args fits
