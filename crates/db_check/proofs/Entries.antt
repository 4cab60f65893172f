-- The entries of an object: which pointers they are of, and where they stand.
use Rattle.std.proofs.Common.{◌≡◌, ℕ, zero, suc, ◌<◌, ◌==◌, Bool, true, false, ◌||◌, List, [], ◌∷◌, ◌++◌, length, get_or, flat_map, Option, Some, None, slice_get, cond, eq-eqb, refl, sym, ap, ◌∙◌, subst, arith}
use Rattle.std.proofs.lemmas.Bool.{eqb-true}
use Rattle.std.specs.List.{list_any, Contains}
use Rattle.core_ir.specs.declared.path.PtrId.{PtrId}
use Rattle.core_ir.specs.declared.path.TypeId.{TypeId}
use Rattle.core_ir.specs.declared.ty.Ty.{Ty}
use Rattle.core_ir.specs.declared.ty.Ty as ty
use Rattle.ev_list.specs.Order.{in_order, keyless}
use Rattle.ev_schema.specs.Policies.{by_name}
use Rattle.ev_schema.specs.Types.{listed_pointers}
use Rattle.ev_schema.specs.declared.pointer.Body.{Body}
use Rattle.ev_schema.specs.declared.pointer.Body.TheVariants as body
use Rattle.ev_schema.specs.declared.pointer.PtrInfo.{PtrInfo}
use Rattle.ev_schema.specs.declared.schema.Schema.{Schema}
use Rattle.db_draft.specs.Members.{member}
use Rattle.db_draft.specs.declared.draft.Element.{Element}
use Rattle.db_draft.specs.declared.draft.Member.{Member}
use Rattle.db_store.specs.Fits.{Each, Ascend, text_before, name_of, entry_before}
use Rattle.db_store.specs.Objects.{entry}
use Rattle.db_store.specs.declared.object.Entry.{Entry}
use Rattle.ev_schema.specs.Named.{named_pointers, pointers_in_order}
use Rattle.db_values.specs.Elements.{elements}
use Rattle.db_values.specs.Made.{stored_entry, entry_of, entry_if_known, entries}
use Rattle.db_check.specs.Laws.{NamesDiffer}
use Rattle.db_check.proofs.Contained.{each_contained}
use Rattle.db_check.proofs.Listed.{skipped, known_other}
use Rattle.db_check.proofs.NameOrder.{name_key, by_names, names_ascend}
use Rattle.db_check.proofs.Pieces.{OneAtMost, ascend_flat}
use Rattle.db_check.proofs.Sorted.{keyed, all_keyed, sorted, sorted_is, each_sorted, any_sorted}

-- ---- a pointer has one entry at most

abbrev OfPointer : PtrId → Entry → Type 0
OfPointer p e = e.pointer ≡ p

one_stored : (p : PtrId) (info : PtrInfo) (u : Ty) (es : List Element) → OneAtMost (OfPointer p) (stored_entry p info u es)
one_stored p info (ty.Scalar t) [] = tt
one_stored p info (ty.Object t) [] = tt
one_stored p info (ty.Tuple' n ts) [] = tt
one_stored p info (ty.Array t) [] = tt
one_stored p info (ty.Scalar t) (e ∷ more) = refl
one_stored p info (ty.Object t) (e ∷ more) = refl
one_stored p info (ty.Tuple' n ts) (e ∷ more) = tt
one_stored p info (ty.Array t) (e ∷ more) = tt

one_of : (p : PtrId) (info : PtrInfo) (b : Body) (es : List Element) → OneAtMost (OfPointer p) (entry_of p info b es)
one_of p info (body.Stored t) es = one_stored p info t es
one_of p info body.Computed es = tt

one_if_known : (ms : List Member) (p : PtrId) (o : Option PtrInfo) → OneAtMost (OfPointer p) (entry_if_known ms p o)
one_if_known ms p None = tt
one_if_known ms p (Some info) = one_of p info info.body (elements (member ms info.name))

abbrev pub entry_at : List PtrInfo → List Member → PtrId → List Entry
entry_at infos ms p = entry_if_known ms p (slice_get infos p.0)

pub entries_are : (infos : List PtrInfo) (ms : List Member) (listed : List PtrId) → entries infos ms listed ≡ flat_map (entry_at infos ms) listed
entries_are infos ms [] = refl
entries_are infos ms (p ∷ more) = ap (λ l. entry_at infos ms p ++ l) (entries_are infos ms more)

-- ---- in byte order of the pointers' names

abbrev pub name_at : List PtrInfo → PtrId → List ℕ
name_at infos p = name_of (slice_get infos p.0)

named_are : (infos : List PtrInfo) (ps : List PtrId) → named_pointers infos ps ≡ all_keyed (name_key (name_at infos)) ps
named_are infos [] = refl
named_are infos (p ∷ more) = ap (λ l. keyed (name_key (name_at infos)) p ∷ l) (named_are infos more)

order_is : (s : Schema) (t : TypeId) → pointers_in_order s t ≡ sorted (name_key (name_at s.pointers)) (listed_pointers s.types t)
order_is s t = ap (λ l. keyless (in_order by_name l)) (named_are s.pointers (listed_pointers s.types t)) ∙ sorted_is (name_key (name_at s.pointers)) (listed_pointers s.types t)

-- each of them is a pointer of the type
pub all_listed : (s : Schema) (t : TypeId) → Each (Contains (listed_pointers s.types t)) (pointers_in_order s t)
all_listed s t =
    let ps = listed_pointers s.types t in
    subst (Each (Contains ps)) (sym (order_is s t)) (each_sorted (name_key (name_at s.pointers)) (Contains ps) ps (each_contained ps))

pointers_ascend : (s : Schema) (t : TypeId) → NamesDiffer (name_at s.pointers) (listed_pointers s.types t) → Ascend (by_names (name_at s.pointers)) (pointers_in_order s t)
pointers_ascend s t d = subst (Ascend (by_names (name_at s.pointers))) (sym (order_is s t)) (names_ascend (name_at s.pointers) (listed_pointers s.types t) d)

pub entries_ascend : (s : Schema) (t : TypeId) (ms : List Member) → NamesDiffer (name_at s.pointers) (listed_pointers s.types t) → Ascend (entry_before s) (entries s.pointers ms (pointers_in_order s t))
entries_ascend s t ms d =
    subst (Ascend (entry_before s)) (sym (entries_are s.pointers ms (pointers_in_order s t)))
    (ascend_flat (entry_at s.pointers ms) OfPointer (λ p. one_if_known ms p (slice_get s.pointers p.0)) (by_names (name_at s.pointers)) (entry_before s)
    (λ a c b d r q h. (λ i. text_before (name_at s.pointers (r i)) (name_at s.pointers (q i))) ∙ h)
    (pointers_in_order s t) (pointers_ascend s t d))

-- ---- what is stored of a listed pointer is its own entry

abbrev pub is_number : PtrId → PtrId → Bool
is_number p q = q.0 == p.0

same_pointer : (p q : PtrId) → is_number p q ≡ true → q ≡ p
same_pointer p q e = let number : q.0 ≡ p.0 = eqb-true q.0 p.0 e in λ i. record { 0 = number i }

any_at : (test : PtrId → Bool) (xs : List PtrId) (k : ℕ) (p : PtrId) → k < length xs → get_or xs k p ≡ p → test p ≡ true → list_any test xs ≡ true
any_at test [] k p l e h = absurd (omega arith)
any_at test (x ∷ xs) zero p l e h = first (test x) (list_any test xs) (ap test e ∙ h)
  where
    first : (a b : Bool) → a ≡ true → (a || b) ≡ true
    first true b h = refl
    first false b h = cc
any_at test (x ∷ xs) (suc k) p l e h = second (test x) (list_any test xs) (any_at test xs k p (omega arith) e h)
  where
    second : (a b : Bool) → b ≡ true → (a || b) ≡ true
    second true b h = refl
    second false b h = h

pub is_in_order : (s : Schema) (t : TypeId) (p : PtrId) → Contains (listed_pointers s.types t) p → list_any (is_number p) (pointers_in_order s t) ≡ true
is_in_order s t p c =
    ap (list_any (is_number p)) (order_is s t) ∙ any_sorted (name_key (name_at s.pointers)) (is_number p) (listed_pointers s.types t)
    ∙ any_at (is_number p) (listed_pointers s.types t) c.0 p c.1 c.2 (eq-eqb p.0 p.0 refl)

pub each_at : (P : PtrId → Type 0) (p : PtrId) (ps : List PtrId) → list_any (is_number p) ps ≡ true → Each P ps → P p
each_at P p [] m h = absurd (cc)
each_at P p (q ∷ more) m h = by_test (λ e. each_at P p more e h.1) (is_number p q) refl m
  where
    by_test : (list_any (is_number p) more ≡ true → P p) → (b : Bool) → is_number p q ≡ b → (b || list_any (is_number p) more) ≡ true → P p
    by_test later true e m = subst P (same_pointer p q e) h.0
    by_test later false e m = later m

module _ (infos : List PtrInfo) (ms : List Member) (p : PtrId) where
  -- where the pointer has no entry, nothing is found
  none_found : (ps : List PtrId) → entry_at infos ms p ≡ [] → entry (entries infos ms ps) p ≡ None
  none_found [] none = refl
  none_found (q ∷ more) none = by_test (none_found more none) (is_number p q) refl
    where
      by_test : entry (entries infos ms more) p ≡ None → (b : Bool) → is_number p q ≡ b → entry (entry_at infos ms q ++ entries infos ms more) p ≡ None
      by_test is true e = ap (λ l. entry (l ++ entries infos ms more) p) (ap (entry_at infos ms) (same_pointer p q e) ∙ none) ∙ is
      by_test is false e = skipped p (entry_at infos ms q) (entries infos ms more) (known_other p q e ms (slice_get infos q.0)) ∙ is

  first_found : (l rest : List Entry) → OneAtMost (OfPointer p) l → (l ≡ [] → entry rest p ≡ None) → entry (l ++ rest) p ≡ entry l p
  first_found [] rest h none = none refl
  first_found (e ∷ []) rest h none =
      let found : (e.pointer.0 == p.0) ≡ true = eq-eqb e.pointer.0 p.0 (ap (λ (q : PtrId). q.0) h) in
      ap (λ b. cond b (Some e.value) (entry rest p)) found ∙ sym (ap (λ b. cond b (Some e.value) None) found)
  first_found (e ∷ f ∷ more) rest h none = absurd h

  pub own_found : (ps : List PtrId) → list_any (is_number p) ps ≡ true → entry (entries infos ms ps) p ≡ entry (entry_at infos ms p) p
  own_found [] m = absurd (cc)
  own_found (q ∷ more) m = by_test (own_found more) (is_number p q) refl m
    where
      by_test : (list_any (is_number p) more ≡ true → entry (entries infos ms more) p ≡ entry (entry_at infos ms p) p) → (b : Bool) → is_number p q ≡ b → (b || list_any (is_number p) more) ≡ true
          → entry (entry_at infos ms q ++ entries infos ms more) p ≡ entry (entry_at infos ms p) p
      by_test later true e m =
          ap (λ r. entry (entry_at infos ms r ++ entries infos ms more) p) (same_pointer p q e)
          ∙ first_found (entry_at infos ms p) (entries infos ms more) (one_if_known ms p (slice_get infos p.0)) (none_found more)
      by_test later false e m = skipped p (entry_at infos ms q) (entries infos ms more) (known_other p q e ms (slice_get infos q.0)) ∙ later m
