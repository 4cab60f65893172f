-- What is stored of a pointer fits where none of its rules fails.
use Rattle.std.proofs.Common.{◌≡◌, ◌≢◌, ℕ, suc, true, false, List, [], ◌∷◌, length, map, Option, Some, None, option_map, slice_get, cond, eq-eqb, refl, sym, ap, ◌∙◌, subst, arith}
use Rattle.std.proofs.lemmas.List.{length-map}
use Rattle.std.specs.List.{Contains}
use Rattle.core_ir.specs.Card.{Within, is_many}
use Rattle.core_ir.specs.declared.path.PtrId.{PtrId}
use Rattle.core_ir.specs.declared.path.TypeId.{TypeId}
use Rattle.core_ir.specs.declared.ty.Ty.{Ty}
use Rattle.core_ir.specs.declared.ty.Ty as ty
use Rattle.ev_schema.specs.Types.{is_subtype, listed_pointers}
use Rattle.ev_schema.specs.declared.pointer.Body.{Body}
use Rattle.ev_schema.specs.declared.pointer.Body.TheVariants as body
use Rattle.ev_schema.specs.declared.pointer.PtrInfo.{PtrInfo}
use Rattle.ev_schema.specs.declared.schema.Schema.{Schema}
use Rattle.ev_value.specs.declared.value.ScalarTy.{ScalarTy}
use Rattle.ev_value.specs.declared.value.Val.TheVariants as val
use Rattle.db_draft.specs.Members.{member}
use Rattle.db_draft.specs.declared.draft.Draft.{Draft}
use Rattle.db_draft.specs.declared.draft.Element.{Element}
use Rattle.db_draft.specs.declared.draft.Member.{Member}
use Rattle.db_store.specs.Fits.{Each, stored_type, FitsEntry}
use Rattle.db_store.specs.Objects.{find, entry, led_to_if_stored}
use Rattle.db_store.specs.declared.object.Object.{Object}
use Rattle.db_store.specs.declared.object.PtrValue.{PtrValue}
use Rattle.db_store.specs.declared.object.PtrValue.TheVariants as value
use Rattle.db_store.specs.declared.object.Target.{Target}
use Rattle.db_ids.specs.declared.heads.Head.{Head}
use Rattle.db_values.specs.Elements.{form_flaw, elements, is_lacking}
use Rattle.db_values.specs.Links.{alone, leads_to, link_flaw}
use Rattle.db_values.specs.Made.{stored_entry, entry_of, entry_if_known, targets_of}
use Rattle.db_values.specs.Names.{stored_flaw, pointer_flaw, flaw_if_known}
use Rattle.db_values.specs.Properties.{property_flaw, values_of}
use Rattle.db_values.specs.declared.flaw.Flaw.{Flaw}
use Rattle.db_values.specs.declared.flaw.Flawed.{Flawed}
use Rattle.db_check.specs.Laws.{is_storable, IsWellFormedSchema}
use Rattle.db_check.proofs.LinkTargets.{link_passes, links_fit}
use Rattle.db_check.proofs.NoFlaw.{neither_of, none_mapped}
use Rattle.db_check.proofs.PropertyValues.{sound_values, bounded, property_passes}

abbrev flawed_at : PtrId → Flaw → Flawed
flawed_at p f = record { pointer = p; flaw = f }

not_empty : {A : Type 0} (xs : List A) (n : ℕ) → length xs ≡ suc n → xs ≢ []
not_empty xs n h e = let none : length xs ≡ 0 = ap length e in absurd (omega arith)

single_found : (p : PtrId) (v : PtrValue) → entry (record { pointer = p; value = v } ∷ []) p ≡ Some v
single_found p v = ap (λ b. cond b (Some v) None) (eq-eqb p.0 p.0 refl)

body_is : (b : Body) (u : Ty) → stored_type b ≡ Some u → b ≡ body.Stored u
body_is (body.Stored t) u e = cc
body_is body.Computed u e = absurd (cc)

module _ (s : Schema) (well : IsWellFormedSchema s) (heads : List Head) (os : List Object)
    (found : (id : ℕ) (t : TypeId) → leads_to s.types heads t (Some id) ≡ true → (o : Object) × (find os id ≡ Some o) × (is_subtype s.types o.ty t ≡ true)) where
  module _ (t : TypeId) (p : PtrId) (info : PtrInfo) (listed : Contains (listed_pointers s.types t) p) (known : slice_get s.pointers p.0 ≡ Some info) where
    -- the entry that elements write fits, and it leads to as many as the elements are
    abbrev EntryFits : Ty → List Element → Type 0
    EntryFits u es = Each (FitsEntry s os t) (stored_entry p info u es) × (length (led_to_if_stored (entry (stored_entry p info u es) p)) ≡ length es)

    values_fit : (u : ScalarTy) (es : List Element) → stored_type info.body ≡ Some (ty.Scalar u) → property_flaw info u es ≡ None → EntryFits (ty.Scalar u) es
    values_fit u [] st h = (tt, refl)
    values_fit u (e ∷ more) st h =
        let passes = property_passes info u (e ∷ more) h in
        let is = sound_values u info.limits (e ∷ more) passes.0 passes.2 in (
          ((listed, (info, known, (ty.Scalar u, st, is.0)), not_empty (values_of u (e ∷ more)) (length more) is.1), tt),
          ap (λ o. length (led_to_if_stored o)) (single_found p (value.Vals (values_of u (e ∷ more)))) ∙ is.1,
        )

    link_fits : (u : TypeId) (es : List Element) → stored_type info.body ≡ Some (ty.Object u) → link_flaw s.types heads info u es ≡ None → EntryFits (ty.Object u) es
    link_fits u [] st h = (tt, refl)
    link_fits u (e ∷ more) st h =
        let ts = targets_of info.link_props (e ∷ more) in
        let is = links_fit s heads os found info u (e ∷ more) (well.properties p info known) h in
        let many : length (map (λ (x : Target). val.Obj x.id) ts) ≡ length (e ∷ more) = length-map ts (λ (x : Target). val.Obj x.id) ∙ is.1 in (
          ((listed, (info, known, (ty.Object u, st, is.0)), not_empty (map (λ (x : Target). val.Obj x.id) ts) (length more) many), tt),
          ap (λ o. length (led_to_if_stored o)) (single_found p (value.Links ts)) ∙ many,
        )

    -- what stands for a stored pointer writes an entry that fits, and as many elements as the pointer may have
    abbrev StoredFits : Ty → Option Draft → Type 0
    StoredFits u d = EntryFits u (elements d) × (form_flaw (is_many info.card) d ≡ None) × (is_lacking info.card (elements d) ≡ false)

    stored_fits : (u : Ty) (d : Option Draft) → is_storable u ≡ true → stored_type info.body ≡ Some u → stored_flaw s.types heads info u d ≡ None → StoredFits u d
    stored_fits (ty.Scalar u) d k st h =
        let both = neither_of (option_map alone (form_flaw (is_many info.card) d)) (option_map alone (property_flaw info u (elements d))) h in
        let passes = none_mapped alone (property_flaw info u (elements d)) both.1 in
        (values_fit u (elements d) st passes, none_mapped alone (form_flaw (is_many info.card) d) both.0, (property_passes info u (elements d) passes).1)
    stored_fits (ty.Object u) d k st h =
        let both = neither_of (option_map alone (form_flaw (is_many info.card) d)) (link_flaw s.types heads info u (elements d)) h in
        (link_fits u (elements d) st both.1, none_mapped alone (form_flaw (is_many info.card) d) both.0, (link_passes s.types heads info u (elements d) both.1).1)
    stored_fits (ty.Tuple' n ts) d k st h = absurd (cc)
    stored_fits (ty.Array u) d k st h = absurd (cc)

    known_fits : (u : Ty) (d : Option Draft) → stored_type info.body ≡ Some u → pointer_flaw s.types heads info info.body d ≡ None → StoredFits u d
    known_fits u d st h =
        stored_fits u d (well.stored p info u known st).0 st (sym (ap (λ b. pointer_flaw s.types heads info b d) (body_is info.body u st)) ∙ h)

    body_fits : (b : Body) (d : Option Draft) → info.body ≡ b → pointer_flaw s.types heads info info.body d ≡ None → Each (FitsEntry s os t) (entry_of p info b (elements d))
    body_fits (body.Stored u) d e h = (known_fits u d (ap stored_type e) h).0.0
    body_fits body.Computed d e h = tt

  -- each entry of a listed pointer fits
  pub entry_fits : (t : TypeId) (p : PtrId) (ms : List Member) (o : Option PtrInfo) → Contains (listed_pointers s.types t) p → slice_get s.pointers p.0 ≡ o → flaw_if_known s.types heads ms p o ≡ None
      → Each (FitsEntry s os t) (entry_if_known ms p o)
  entry_fits t p ms None c k h = tt
  entry_fits t p ms (Some info) c k h =
      let d = member ms info.name in
      body_fits t p info c k info.body d refl (none_mapped (flawed_at p) (pointer_flaw s.types heads info info.body d) h)

  -- a listed pointer has as many values as its bounds say
  pub within_bounds : (t : TypeId) (p : PtrId) (ms : List Member) (info : PtrInfo) (u : Ty) → Contains (listed_pointers s.types t) p → slice_get s.pointers p.0 ≡ Some info → stored_type info.body ≡ Some u
      → flaw_if_known s.types heads ms p (slice_get s.pointers p.0) ≡ None → Within info.card (length (led_to_if_stored (entry (entry_if_known ms p (slice_get s.pointers p.0)) p)))
  within_bounds t p ms info u c k st h =
      let d = member ms info.name in
      let flawless = none_mapped (flawed_at p) (pointer_flaw s.types heads info info.body d) (sym (ap (flaw_if_known s.types heads ms p) k) ∙ h) in
      let fits = known_fits t p info c k u d st flawless in
      let own : entry_if_known ms p (slice_get s.pointers p.0) ≡ stored_entry p info u (elements d) = ap (entry_if_known ms p) k ∙ ap (λ b. entry_of p info b (elements d)) (body_is info.body u st) in
      subst (Within info.card) (sym (ap (λ l. length (led_to_if_stored (entry l p))) own ∙ fits.0.1))
      (bounded info.card d (well.stored p info u k st).1 fits.1 fits.2)
