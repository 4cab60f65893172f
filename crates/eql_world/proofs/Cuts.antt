-- Objects with their links cut.
use Rattle.std.proofs.Common.{◌≡◌, ◌≢◌, ℕ, ◌==◌, Bool, true, false, List, [], ◌∷◌, ◌++◌, map, filter, flat_map, Option, Some, None, refl, sym, ap, ◌∙◌, subst, if◌then◌else◌, slice_get}
use Rattle.std.proofs.lemmas.Bool.{eqb-true}
use Rattle.std.proofs.lemmas.Cmp.{tied_itself}
use Rattle.std.specs.Cmp.Lexicographic.{slice_cmp, nat_list_cmp_total}
use Rattle.std.specs.Ordering.{nat_cmp, is_lt}
use Rattle.std.specs.declared.cmp.Ordering.TheVariants.{Equal}
use Rattle.ev_value.specs.declared.value.Val.{Val}
use Rattle.ev_value.specs.declared.value.Val.TheVariants as made
use Rattle.core_ir.specs.declared.path.PtrId.{PtrId}
use Rattle.ev_schema.specs.declared.schema.Schema.{Schema}
use Rattle.db_store.specs.declared.object.Entry.{Entry}
use Rattle.db_store.specs.declared.object.Object.{Object}
use Rattle.db_store.specs.declared.object.PtrValue.{PtrValue}
use Rattle.db_store.specs.declared.object.PtrValue.TheVariants as value
use Rattle.db_store.specs.declared.object.Target.{Target}
use Rattle.db_store.specs.Fits.{Each, Ascend, text_before, name_of, entry_before}
use Rattle.db_store.specs.Objects.{find, entry, led_to, led_to_if_stored, items_at}
use Rattle.eql_world.specs.View.{cut_targets, cut_value, cut_entry, is_filled, cut}
use Rattle.eql_world.proofs.Lists.{Part, Nothing, part_all, part_append, part_map, part_filter, part_behind}

pub some_same : {A : Type 0} (a b : A) → ◌≡◌ {A = Option A} (Some a) (Some b) → a ≡ b
some_same a b e = cc

-- no text stands before itself
irreflexive : (n : List ℕ) → text_before n n ≡ true → ⊥
irreflexive n e = let tied : slice_cmp nat_cmp n n ≡ Equal = tied_itself nat_list_cmp_total n in
    let clash : false ≡ true = sym (ap is_lt tied) ∙ e in cc

-- what is stored of a pointer, once links are cut
abbrev pub cut_if : (ℕ → Bool) → Option PtrValue → Option PtrValue
cut_if sees None = None
cut_if sees (Some v) = Some (cut_value sees v)

-- the entries of an object once its links are cut
abbrev pub kept_entries : (ℕ → Bool) → List Entry → List Entry
kept_entries sees es = filter (λ (e : Entry). is_filled e.value) (map (cut_entry sees) es)

unfilled : (v : PtrValue) → is_filled v ≡ false → led_to v ≡ []
unfilled (value.Vals []) e = refl
unfilled (value.Vals (x ∷ xs)) e = let clash : true ≡ false = e in absurd cc
unfilled (value.Links []) e = refl
unfilled (value.Links (x ∷ xs)) e = let clash : true ≡ false = e in absurd cc

pub filled : (v : PtrValue) → is_filled v ≡ true → led_to v ≢ []
filled (value.Vals []) e = let clash : false ≡ true = e in absurd cc
filled (value.Vals (x ∷ xs)) e = λ h. cc
filled (value.Links []) e = let clash : false ≡ true = e in absurd cc
filled (value.Links (x ∷ xs)) e = λ h. cc

module _ (s : Schema) (sees : ℕ → Bool) where
  -- ---- a pointer has one entry

  no_more_at : (e y : Entry) (es : List Entry) (p : PtrId) (b : Bool) → y.pointer.0 == p.0 ≡ b → e.pointer.0 ≡ p.0 → entry_before s e y ≡ true → entry es p ≡ None
      → (if b then Some y.value else entry es p) ≡ None
  no_more_at e y es p true at is before later =
      let same : e.pointer.0 ≡ y.pointer.0 = is ∙ sym (eqb-true y.pointer.0 p.0 at) in
      absurd (irreflexive (name_of (slice_get s.pointers y.pointer.0)) (subst (λ (n : ℕ). text_before (name_of (slice_get s.pointers n)) (name_of (slice_get s.pointers y.pointer.0)) ≡ true) same before))
  no_more_at e y es p false at is before later = later

  no_more : (e : Entry) (es : List Entry) (p : PtrId) → e.pointer.0 ≡ p.0 → Each (λ (y : Entry). entry_before s e y ≡ true) es → entry es p ≡ None
  no_more e [] p is all = refl
  no_more e (y ∷ es) p is all = no_more_at e y es p (y.pointer.0 == p.0) refl is all.0 (no_more e es p is all.1)

  -- ---- what is stored once links are cut

  none_cut_at : (e : Entry) (es : List Entry) (p : PtrId) (b c : Bool) → e.pointer.0 == p.0 ≡ b → (if b then Some e.value else entry es p) ≡ None
      → (entry es p ≡ None → entry (kept_entries sees es) p ≡ None)
      → entry (if c then cut_entry sees e ∷ kept_entries sees es else kept_entries sees es) p ≡ None
  none_cut_at e es p true c at none later = let clash : Some e.value ≡ None = none in absurd cc
  none_cut_at e es p false true at none later = ap (λ (b : Bool). if b then Some (cut_value sees e.value) else entry (kept_entries sees es) p) at ∙ later none
  none_cut_at e es p false false at none later = later none

  none_cut : (es : List Entry) (p : PtrId) → entry es p ≡ None → entry (kept_entries sees es) p ≡ None
  none_cut [] p none = refl
  none_cut (e ∷ es) p none = none_cut_at e es p (e.pointer.0 == p.0) (is_filled (cut_value sees e.value)) refl none (none_cut es p)

  cut_items_at : (e : Entry) (es : List Entry) (p : PtrId) (b c : Bool) → e.pointer.0 == p.0 ≡ b → is_filled (cut_value sees e.value) ≡ c
      → Each (λ (y : Entry). entry_before s e y ≡ true) es
      → led_to_if_stored (entry (kept_entries sees es) p) ≡ led_to_if_stored (cut_if sees (entry es p))
      → led_to_if_stored (entry (if c then cut_entry sees e ∷ kept_entries sees es else kept_entries sees es) p) ≡ led_to_if_stored (cut_if sees (if b then Some e.value else entry es p))
  cut_items_at e es p true true at full up later =
      ap (λ (b : Bool). led_to_if_stored (if b then Some (cut_value sees e.value) else entry (kept_entries sees es) p)) at
  cut_items_at e es p true false at full up later =
      ap led_to_if_stored (none_cut es p (no_more e es p (eqb-true e.pointer.0 p.0 at) up)) ∙ sym (unfilled (cut_value sees e.value) full)
  cut_items_at e es p false true at full up later =
      ap (λ (b : Bool). led_to_if_stored (if b then Some (cut_value sees e.value) else entry (kept_entries sees es) p)) at ∙ later
  cut_items_at e es p false false at full up later = later

  -- what a pointer leads to once links are cut
  pub cut_items : (es : List Entry) (p : PtrId) → Ascend (entry_before s) es → led_to_if_stored (entry (kept_entries sees es) p) ≡ led_to_if_stored (cut_if sees (entry es p))
  cut_items [] p up = refl
  cut_items (e ∷ es) p up = cut_items_at e es p (e.pointer.0 == p.0) (is_filled (cut_value sees e.value)) refl refl up.0 (cut_items es p up.1)

  pub part_stored : (v : Option PtrValue) → Part (led_to_if_stored (cut_if sees v)) (led_to_if_stored v)
  part_stored None = Nothing
  part_stored (Some (value.Vals vs)) = part_all vs
  part_stored (Some (value.Links ts)) =
      part_map (λ (t : Target). made.Obj t.id) (cut_targets sees ts) ts (part_filter (λ (t : Target). sees t.id) ts)

  pub part_items : (o : Object) (p : PtrId) → Ascend (entry_before s) o.values → Part (items_at (cut sees o) p) (items_at o p)
  part_items o p up = subst (λ (l : List Val). Part l (items_at o p)) (sym (cut_items o.values p up)) (part_stored (entry o.values p))

  -- ---- all objects

  flat_part_at : (p : PtrId) (q : Object → Bool) (keep : Object → Bool) (o : Object) (os : List Object) (c d : Bool) → q (cut sees o) ≡ d
      → Part (items_at (cut sees o) p) (items_at o p)
      → Part (flat_map (λ (x : Object). items_at x p) (filter q (map (cut sees) (filter keep os)))) (flat_map (λ (x : Object). items_at x p) (filter q os))
      → Part (flat_map (λ (x : Object). items_at x p) (filter q (map (cut sees) (if c then o ∷ filter keep os else filter keep os)))) (flat_map (λ (x : Object). items_at x p) (if d then o ∷ filter q os else filter q os))
  flat_part_at p q keep o os true true at here later =
      subst (λ (b : Bool). Part (flat_map (λ (x : Object). items_at x p) (if b then cut sees o ∷ filter q (map (cut sees) (filter keep os)) else filter q (map (cut sees) (filter keep os)))) (items_at o p ++ flat_map (λ (x : Object). items_at x p) (filter q os))) (sym at)
      (part_append (items_at (cut sees o) p) (items_at o p) (flat_map (λ (x : Object). items_at x p) (filter q (map (cut sees) (filter keep os)))) (flat_map (λ (x : Object). items_at x p) (filter q os)) here later)
  flat_part_at p q keep o os true false at here later =
      subst (λ (b : Bool). Part (flat_map (λ (x : Object). items_at x p) (if b then cut sees o ∷ filter q (map (cut sees) (filter keep os)) else filter q (map (cut sees) (filter keep os)))) (flat_map (λ (x : Object). items_at x p) (filter q os))) (sym at) later
  flat_part_at p q keep o os false true at here later =
      part_behind (items_at o p) (flat_map (λ (x : Object). items_at x p) (filter q (map (cut sees) (filter keep os)))) (flat_map (λ (x : Object). items_at x p) (filter q os)) later
  flat_part_at p q keep o os false false at here later = later

  -- what a pointer leads to over all objects that are kept, once links are cut
  pub flat_part : (p : PtrId) (q : Object → Bool) → ((o : Object) → q (cut sees o) ≡ q o) → (keep : Object → Bool) (os : List Object) → Each (λ (o : Object). Ascend (entry_before s) o.values) os
      → Part (flat_map (λ (x : Object). items_at x p) (filter q (map (cut sees) (filter keep os)))) (flat_map (λ (x : Object). items_at x p) (filter q os))
  flat_part p q same keep [] all = Nothing
  flat_part p q same keep (o ∷ os) all = flat_part_at p q keep o os (keep o) (q o) (same o) (part_items o p all.0) (flat_part p q same keep os all.1)

  -- ---- finding

  find_kept_at : (keep : Object → Bool) (x o : Object) (os : List Object) (id : ℕ) (b c : Bool) → x.id == id ≡ b → keep x ≡ c → keep o ≡ true
      → (if b then Some x else find os id) ≡ Some o
      → (find os id ≡ Some o → find (map (cut sees) (filter keep os)) id ≡ Some (cut sees o))
      → find (map (cut sees) (if c then x ∷ filter keep os else filter keep os)) id ≡ Some (cut sees o)
  find_kept_at keep x o os id true true at kept shown is later =
      let same : x ≡ o = some_same x o is in
      ap (λ (b : Bool). if b then Some (cut sees x) else find (map (cut sees) (filter keep os)) id) at ∙ ap (λ (y : Object). Some (cut sees y)) same
  find_kept_at keep x o os id true false at kept shown is later =
      let same : x ≡ o = some_same x o is in
      let clash : false ≡ true = sym kept ∙ ap keep same ∙ shown in absurd cc
  find_kept_at keep x o os id false true at kept shown is later =
      ap (λ (b : Bool). if b then Some (cut sees x) else find (map (cut sees) (filter keep os)) id) at ∙ later is
  find_kept_at keep x o os id false false at kept shown is later = later is

  -- an object that is kept is found, with its links cut
  pub find_kept : (keep : Object → Bool) (os : List Object) (id : ℕ) (o : Object) → find os id ≡ Some o → keep o ≡ true → find (map (cut sees) (filter keep os)) id ≡ Some (cut sees o)
  find_kept keep [] id o is shown = let clash : None ≡ Some o = is in absurd cc
  find_kept keep (x ∷ os) id o is shown = find_kept_at keep x o os id (x.id == id) (keep x) refl refl shown is (λ h. find_kept keep os id o h shown)
