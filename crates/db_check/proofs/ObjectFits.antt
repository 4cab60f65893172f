-- An object that a draft writes fits where no rule on its values fails.
use Rattle.std.proofs.Common.{◌≡◌, ℕ, zero, suc, ◌<◌, nat_lt, Bool, true, false, List, [], ◌∷◌, ◌++◌, length, Option, Some, None, slice_get, cond, refl, sym, ap, ◌∙◌, subst, length-append, arith}
use Rattle.std.proofs.lemmas.Bool.{ltb-true, ltb-false}
use Rattle.std.proofs.lemmas.Option.{slice_get_within}
use Rattle.std.specs.List.{Contains}
use Rattle.core_ir.specs.Card.{Within}
use Rattle.core_ir.specs.declared.path.PtrId.{PtrId}
use Rattle.core_ir.specs.declared.path.TypeId.{TypeId}
use Rattle.ev_schema.specs.Types.{is_subtype, listed_pointers}
use Rattle.ev_schema.specs.declared.pointer.PtrInfo.{PtrInfo}
use Rattle.ev_schema.specs.declared.schema.Schema.{Schema}
use Rattle.db_draft.specs.declared.draft.Member.{Member}
use Rattle.db_draft.specs.declared.draft.ObjectDraft.{ObjectDraft}
use Rattle.db_draft.specs.declared.refusal.Rule.TheVariants as rule
use Rattle.db_store.specs.Fits.{Each, text_before, name_of, FitsEntry, FitsObject}
use Rattle.db_store.specs.Objects.{find, led_to_if_stored}
use Rattle.db_store.specs.declared.object.Object.{Object}
use Rattle.db_ids.specs.declared.heads.Head.{Head}
use Rattle.db_values.specs.Links.{alone, leads_to}
use Rattle.ev_schema.specs.Named.{pointers_in_order}
use Rattle.db_values.specs.Made.{object_of}
use Rattle.db_values.specs.Names.{flaw_if_known, first_flawed, least_unknown, sooner, object_flaw}
use Rattle.db_values.specs.declared.flaw.Flaw.{Flaw}
use Rattle.db_values.specs.declared.flaw.Flawed.{Flawed}
use Rattle.db_check.specs.Check.{orders_of, orders, told_flaw, values_from, objects_of}
use Rattle.db_check.specs.Exclusive.{pointers_at}
use Rattle.db_check.specs.Laws.{IsWellFormedSchema}
use Rattle.db_check.proofs.Entries.{entry_at, entries_are, entries_ascend, all_listed, is_in_order, each_at, own_found}
use Rattle.db_check.proofs.HeadTypes.{IsKnown, AllKnown}
use Rattle.db_check.proofs.NoFlaw.{neither_of}
use Rattle.db_check.proofs.Pieces.{each_flat}
use Rattle.db_check.proofs.Places.{at_length}
use Rattle.db_check.proofs.PointerFits.{entry_fits, within_bounds}

-- ---- the pointers of each type are those in order

length_orders : (s : Schema) (n : ℕ) → length (orders_of s n) ≡ n
length_orders s zero = refl
length_orders s (suc n) = let is = length_orders s n in let more = length-append (orders_of s n) (pointers_in_order s (record { 0 = n }) ∷ []) in omega arith

still_at : {A : Type 0} (xs ys : List A) (k : ℕ) (x : A) → slice_get xs k ≡ Some x → slice_get (xs ++ ys) k ≡ Some x
still_at [] ys k x e = absurd (cc)
still_at (y ∷ xs) ys zero x e = e
still_at (y ∷ xs) ys (suc k) x e = still_at xs ys k x e

order_at : (s : Schema) (n k : ℕ) → k < n → slice_get (orders_of s n) k ≡ Some (pointers_in_order s (record { 0 = k }))
order_at s zero k l = absurd (omega arith)
order_at s (suc n) k l = by_test (nat_lt k n) refl (order_at s n k)
  where
    by_test : (b : Bool) → nat_lt k n ≡ b → (k < n → slice_get (orders_of s n) k ≡ Some (pointers_in_order s (record { 0 = k })))
        → slice_get (orders_of s n ++ pointers_in_order s (record { 0 = n }) ∷ []) k ≡ Some (pointers_in_order s (record { 0 = k }))
    by_test true e before = still_at (orders_of s n) (pointers_in_order s (record { 0 = n }) ∷ []) k (pointers_in_order s (record { 0 = k })) (before (ltb-true k n e))
    by_test false e before =
        let last : k ≡ n = omega (arith, ltb-false k n e) in
        ap (slice_get (orders_of s n ++ pointers_in_order s (record { 0 = n }) ∷ [])) (last ∙ sym (length_orders s n))
        ∙ at_length (orders_of s n) [] (pointers_in_order s (record { 0 = n }))
        ∙ ap (λ m. Some (pointers_in_order s (record { 0 = m }))) (sym last)

listed_at : (s : Schema) (t : TypeId) → IsKnown s.types t → pointers_at (slice_get (orders s) t.0) ≡ pointers_in_order s t
listed_at s t k = ap pointers_at (order_at s (length s.types) t.0 (slice_get_within s.types t.0 k.0 k.1))

-- ---- no pointer has a flaw

some_if : (b : Bool) (f g : Flaw) → cond b (Some f) (Some g) ≡ None → ⊥
some_if true f g e = cc
some_if false f g e = cc

none_sooner : (infos : List PtrInfo) (key : Option (List ℕ)) (f : Option Flawed) → sooner infos key f ≡ None → f ≡ None
none_sooner infos None None e = refl
none_sooner infos None (Some f) e = absurd (cc)
none_sooner infos (Some key) None e = refl
none_sooner infos (Some key) (Some f) e = absurd (some_if (text_before (name_of (slice_get infos f.pointer.0)) key) f.flaw (alone rule.X6) e)

not_told : (n : ℕ) (o : Option Flaw) → told_flaw n o ≡ None → o ≡ None
not_told n None e = refl
not_told n (Some f) e = cc

each_both : {A : Type 0} (P Q : A → Type 0) (xs : List A) → Each P xs → Each Q xs → Each (λ x. P x × Q x) xs
each_both P Q [] h g = tt
each_both P Q (x ∷ more) h g = ((h.0, g.0), each_both P Q more h.1 g.1)

module _ (s : Schema) (well : IsWellFormedSchema s) (heads : List Head) (os : List Object)
    (found : (id : ℕ) (t : TypeId) → leads_to s.types heads t (Some id) ≡ true → (o : Object) × (find os id ≡ Some o) × (is_subtype s.types o.ty t ≡ true)) where
  -- nothing fails at a pointer
  abbrev Flawless : List Member → PtrId → Type 0
  Flawless ms p = flaw_if_known s.types heads ms p (slice_get s.pointers p.0) ≡ None

  all_flawless : (ms : List Member) (ps : List PtrId) → first_flawed s.types heads s.pointers ms ps ≡ None → Each (Flawless ms) ps
  all_flawless ms [] h = tt
  all_flawless ms (p ∷ more) h =
      let both = neither_of (flaw_if_known s.types heads ms p (slice_get s.pointers p.0)) (first_flawed s.types heads s.pointers ms more) h in
      (both.0, all_flawless ms more both.1)

  object_fits : (id : ℕ) (t : TypeId) (ms : List Member) → IsKnown s.types t → object_flaw s heads t (pointers_in_order s t) ms ≡ None
      → FitsObject s (λ info. info.card) os (object_of s.pointers id t (pointers_in_order s t) ms)
  object_fits id t ms known h =
      let listed = pointers_in_order s t in
      let flawless = all_flawless ms listed (none_sooner s.pointers (least_unknown s t None ms) (first_flawed s.types heads s.pointers ms listed) h) in
      record {
        known = known;
        in_order = entries_ascend s t ms (well.names t);
        entries = subst (Each (FitsEntry s os t)) (sym (entries_are s.pointers ms listed))
            (each_flat (entry_at s.pointers ms) (λ p. Contains (listed_pointers s.types t) p × Flawless ms p) (FitsEntry s os t)
            (λ p g. entry_fits s well heads os found t p ms (slice_get s.pointers p.0) g.0 refl g.1)
            listed (each_both (Contains (listed_pointers s.types t)) (Flawless ms) listed (all_listed s t) flawless));
        within = λ p info u c k st.
            subst (λ o. Within info.card (length (led_to_if_stored o))) (sym (own_found s.pointers ms p listed (is_in_order s t p c)))
            (within_bounds s well heads os found t p ms info u c k st (each_at (Flawless ms) p listed (is_in_order s t p c) flawless));
      }

  pub objects_fit : (n : ℕ) (hs : List Head) (ds : List ObjectDraft) → AllKnown s.types hs → values_from s (orders s) heads n hs ds ≡ None
      → Each (FitsObject s (λ info. info.card) os) (objects_of s (orders s) hs ds)
  objects_fit n [] ds k h = tt
  objects_fit n (g ∷ gs) [] k h = tt
  objects_fit n (g ∷ gs) (d ∷ ds) k h =
      let flaw = object_flaw s heads g.ty (pointers_at (slice_get (orders s) g.ty.0)) d.members in
      let both = neither_of (told_flaw n flaw) (values_from s (orders s) heads (suc n) gs ds) h in
      let listed = listed_at s g.ty k.0 in (
        subst (λ l. FitsObject s (λ info. info.card) os (object_of s.pointers g.id g.ty l d.members)) (sym listed)
            (object_fits g.id g.ty d.members k.0 (subst (λ l. object_flaw s heads g.ty l d.members ≡ None) listed (not_told n flaw both.0))),
        objects_fit (suc n) gs ds k.1 both.1,
      )
