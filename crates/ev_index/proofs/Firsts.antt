-- What maps find that are filled from a list, and that it is the first of the list.
use Rattle.std.proofs.Common.{◌≡◌, ◌<◌, ◌+◌, ℕ, suc, ◌==◌, Bool, true, false, List, [], ◌∷◌, ◌++◌, length, map, option_map, Option, Some, None, slice_get, get_or, drop, is_eq, cond, if◌then◌else◌, refl, sym, ap, ◌∙◌, arith, append_assoc, length-append}
use Rattle.std.proofs.lemmas.List.{at_drop_more}
use Rattle.std.proofs.lemmas.Option.{slice_get-map}
use Rattle.std.proofs.lemmas.Slice.Eq.{bytes_eq-Decides}
use Rattle.std.specs.BTreeMap.{BTreeMap}
use Rattle.std.specs.BTreeMap as tree
use Rattle.std.specs.Cmp.Lexicographic.{slice_cmp, texts_ties}
use Rattle.std.specs.Ordering.{nat_cmp}
use Rattle.std.specs.Str.{bytes_eq}
use Rattle.core_ir.specs.declared.path.PtrId.{PtrId}
use Rattle.core_ir.specs.declared.path.TypeId.{TypeId}
use Rattle.ev_index.specs.First.{or_other, with_one, nothing}
use Rattle.ev_index.specs.Globals.{global_type}
use Rattle.ev_index.specs.Index.{at_place, by_name, pointers_of, with_pointer}
use Rattle.ev_index.specs.declared.by_name.ByName.{ByName}
use Rattle.ev_schema.specs.Named.{type_from, type_named}
use Rattle.ev_schema.specs.Pointers.{computed_among, first_named, has_name}
use Rattle.ev_schema.specs.Types.{listed_pointers, pointers_if_known}
use Rattle.ev_schema.specs.declared.pointer.Computed.{Computed}
use Rattle.ev_schema.specs.declared.pointer.PtrInfo.{PtrInfo}
use Rattle.ev_schema.specs.declared.types.GlobalInfo.{GlobalInfo}
use Rattle.ev_schema.specs.declared.types.TypeInfo.{TypeInfo}
use Rattle.ev_value.specs.declared.value.ScalarTy.{ScalarTy}

-- one more before the others
one_more : {V : Type 0} (found : Option V) (b : Bool) (v : V) (others : Option V)
    → or_other (or_other found (if b then Some v else None)) others ≡ or_other found (if b then Some v else others)
one_more (Some w) b v others = refl
one_more None true v others = refl
one_more None false v others = refl

no_more : {V : Type 0} (found : Option V) → found ≡ or_other found None
no_more (Some v) = refl
no_more None = refl

pub next : (n : ℕ) → n + 1 ≡ suc n
next n = omega arith

-- the element at a place is the first of those that are left
pub left_item : {A : Type 0} (xs : List A) (i : ℕ) (x : A) → i < length xs → x ≡ get_or xs i x → drop i xs ≡ x ∷ drop (i + 1) xs
left_item xs i x h e = at_drop_more (λ l. l) xs i x h ∙ ap (λ y. y ∷ drop (i + 1) xs) (sym e)

-- ---- a map that a new name is put into

joined : {V : Type 0} (b : Bool) (v : V) (found : Option V) → (b ≡ true → found ≡ None) → cond b (Some v) found ≡ or_other found (if b then Some v else None)
joined true v found none = rw (none refl) refl
joined false v None none = refl
joined false v (Some w) none = refl

put_in : {V : Type 0} (m n : BTreeMap (List ℕ) V) (key : List ℕ) (v : V) → tree.get (slice_cmp nat_cmp) m key ≡ None
    → ((x : List ℕ) → tree.get (slice_cmp nat_cmp) n x ≡ cond (is_eq (slice_cmp nat_cmp key x)) (Some v) (tree.get (slice_cmp nat_cmp) m x))
    → (x : List ℕ) → tree.get (slice_cmp nat_cmp) n x ≡ with_one bytes_eq (tree.get (slice_cmp nat_cmp) m) key v x
put_in m n key v absent updates x =
    updates x ∙ rw (sym (texts_ties key x))
    (joined (bytes_eq key x) v (tree.get (slice_cmp nat_cmp) m x) (λ e. ap (tree.get (slice_cmp nat_cmp) m) (sym ((bytes_eq-Decides key x).0 e)) ∙ absent))

-- A name that is not found is put into the map with a value.
pub added : {V : Type 0} (m n : BTreeMap (List ℕ) V) (key name : List ℕ) (v : V) → key ≡ name → tree.get (slice_cmp nat_cmp) m name ≡ None
    → ((x : List ℕ) → tree.get (slice_cmp nat_cmp) n x ≡ cond (is_eq (slice_cmp nat_cmp key x)) (Some v) (tree.get (slice_cmp nat_cmp) m x))
    → (x : List ℕ) → tree.get (slice_cmp nat_cmp) n x ≡ with_one bytes_eq (tree.get (slice_cmp nat_cmp) m) name v x
added m n key name v same absent updates x =
    put_in m n key v (ap (tree.get (slice_cmp nat_cmp) m) same ∙ absent) updates x
    ∙ ap (λ k. with_one bytes_eq (tree.get (slice_cmp nat_cmp) m) k v x) same

-- ---- types

-- what is found by names, once the types of a list came; the first has the number k
abbrev pub with_types : ℕ → (List ℕ → Option TypeId) → List TypeInfo → List ℕ → Option TypeId
with_types k found [] = found
with_types k found (info ∷ more) = with_types (suc k) (with_one bytes_eq found info.name (record { 0 = k })) more

types_from : (k : ℕ) (found : List ℕ → Option TypeId) (types : List TypeInfo) (name : List ℕ) → with_types k found types name ≡ or_other (found name) (type_from k types name)
types_from k found [] name = no_more (found name)
types_from k found (info ∷ more) name =
    types_from (suc k) (with_one bytes_eq found info.name (record { 0 = k })) more name
    ∙ one_more (found name) (bytes_eq info.name name) (record { 0 = k }) (type_from (suc k) more name)

pub all_types : (types : List TypeInfo) → with_types 0 nothing types ≡ type_named types
all_types types = λ i name. types_from 0 nothing types name i

-- ---- globals

-- what is found by names, once the globals of a list came
abbrev pub with_globals : (List ℕ → Option ScalarTy) → List GlobalInfo → List ℕ → Option ScalarTy
with_globals found [] = found
with_globals found (info ∷ more) = with_globals (with_one bytes_eq found info.name info.ty) more

globals_from : (found : List ℕ → Option ScalarTy) (globals : List GlobalInfo) (name : List ℕ) → with_globals found globals name ≡ or_other (found name) (global_type globals name)
globals_from found [] name = no_more (found name)
globals_from found (info ∷ more) name =
    globals_from (with_one bytes_eq found info.name info.ty) more name ∙ one_more (found name) (bytes_eq info.name name) info.ty (global_type more name)

pub all_globals : (globals : List GlobalInfo) → with_globals nothing globals ≡ global_type globals
all_globals globals = λ i name. globals_from nothing globals name i

-- ---- pointers

-- what is found by names, once the pointers of a list came
abbrev pub with_pointers : List PtrInfo → (List ℕ → Option PtrId) → List PtrId → List ℕ → Option PtrId
with_pointers pointers found [] = found
with_pointers pointers found (p ∷ more) = with_pointers pointers (with_pointer (slice_get pointers p.0) found p) more

one_pointer : (info : Option PtrInfo) (found : List ℕ → Option PtrId) (p : PtrId) (name : List ℕ) (others : Option PtrId)
    → or_other (with_pointer info found p name) others ≡ or_other (found name) (if has_name info name then Some p else others)
one_pointer None found p name others = refl
one_pointer (Some info) found p name others = one_more (found name) (bytes_eq info.name name) p others

pointers_from : (pointers : List PtrInfo) (found : List ℕ → Option PtrId) (listed : List PtrId) (name : List ℕ)
    → with_pointers pointers found listed name ≡ or_other (found name) (first_named pointers listed name)
pointers_from pointers found [] name = no_more (found name)
pointers_from pointers found (p ∷ more) name =
    pointers_from pointers (with_pointer (slice_get pointers p.0) found p) more name
    ∙ one_pointer (slice_get pointers p.0) found p name (first_named pointers more name)

pub all_pointers : (pointers : List PtrInfo) (listed : List PtrId) → with_pointers pointers nothing listed ≡ first_named pointers listed
all_pointers pointers listed = λ i name. pointers_from pointers nothing listed name i

-- ---- expressions of computed pointers

-- the places by numbers, once the expressions of a list came; the first has the place k
abbrev pub with_places : ℕ → (ℕ → Option ℕ) → List Computed → ℕ → Option ℕ
with_places k found [] = found
with_places k found (c ∷ more) = with_places (suc k) (with_one (λ a b. a == b) found c.pointer.0 k) more

-- the place of the first expression of a pointer; the first of the list has the place k
abbrev first_place : ℕ → List Computed → ℕ → Option ℕ
first_place k [] number = None
first_place k (c ∷ more) number = if c.pointer.0 == number then Some k else first_place (suc k) more number

places_from : (k : ℕ) (found : ℕ → Option ℕ) (computed : List Computed) (number : ℕ) → with_places k found computed number ≡ or_other (found number) (first_place k computed number)
places_from k found [] number = no_more (found number)
places_from k found (c ∷ more) number =
    places_from (suc k) (with_one (λ a b. a == b) found c.pointer.0 k) more number
    ∙ one_more (found number) (c.pointer.0 == number) k (first_place (suc k) more number)

at_length : {A : Type 0} (xs ys : List A) (x : A) → slice_get (xs ++ x ∷ ys) (length xs) ≡ Some x
at_length [] ys x = refl
at_length (y ∷ xs) ys x = at_length xs ys x

next_place : {A : Type 0} (front : List A) (x : A) → length (front ++ x ∷ []) ≡ suc (length front)
next_place front x = omega (arith, length-append front (x ∷ []))

stands_at : (front more : List Computed) (c : Computed) (pointer : PtrId) (b : Bool)
    → at_place (front ++ c ∷ more) (first_place (suc (length front)) more pointer.0) ≡ computed_among more pointer
    → at_place (front ++ c ∷ more) (if b then Some (length front) else first_place (suc (length front)) more pointer.0) ≡ (if b then Some c else computed_among more pointer)
stands_at front more c pointer true later = at_length front more c
stands_at front more c pointer false later = later

stands_from : (front computed : List Computed) (pointer : PtrId) → at_place (front ++ computed) (first_place (length front) computed pointer.0) ≡ computed_among computed pointer
stands_from front [] pointer = refl
stands_from front (c ∷ more) pointer =
    stands_at front more c pointer (c.pointer.0 == pointer.0)
    (sym (λ i. at_place (append_assoc front (c ∷ []) more i) (first_place (next_place front c i) more pointer.0)) ∙ stands_from (front ++ c ∷ []) more pointer)

-- the place that is kept for a pointer is that of its first expression
pub all_places : (computed : List Computed) (pointer : PtrId) → at_place computed (with_places 0 nothing computed pointer.0) ≡ computed_among computed pointer
all_places computed pointer = ap (at_place computed) (places_from 0 nothing computed pointer.0) ∙ stands_from [] computed pointer

-- ---- the pointers of a type

-- what is found by a name, if anything is looked up
abbrev pub found_in : Option (List ℕ → Option PtrId) → List ℕ → Option PtrId
found_in None name = None
found_in (Some found) name = found name

of_type : (infos : List PtrInfo) (info : Option TypeInfo) (name : List ℕ) → found_in (option_map (pointers_of infos) info) name ≡ first_named infos (pointers_if_known info) name
of_type infos None name = refl
of_type infos (Some info) name = refl

-- What the map of a type finds is the first of the pointers listed for it.
pub found_for : (infos : List PtrInfo) (types : List TypeInfo) (maps : List (ByName PtrId)) (type : TypeId) (name : List ℕ) → map by_name maps ≡ map (pointers_of infos) types
    → found_in (option_map by_name (slice_get maps type.0)) name ≡ first_named infos (listed_pointers types type) name
found_for infos types maps type name e =
    ap (λ o. found_in o name) (sym (slice_get-map by_name maps type.0) ∙ ap (λ l. slice_get l type.0) e ∙ slice_get-map (pointers_of infos) types type.0)
    ∙ of_type infos (slice_get types type.0) name

pub found_by : (infos : List PtrInfo) (types : List TypeInfo) (maps : List (ByName PtrId)) (type : TypeId) (name : List ℕ) (m : ByName PtrId) → map by_name maps ≡ map (pointers_of infos) types
    → slice_get maps type.0 ≡ Some m → by_name m name ≡ first_named infos (listed_pointers types type) name
found_by infos types maps type name m e here = ap (λ o. found_in (option_map by_name o) name) (sym here) ∙ found_for infos types maps type name e

pub found_by_none : (infos : List PtrInfo) (types : List TypeInfo) (maps : List (ByName PtrId)) (type : TypeId) (name : List ℕ) → map by_name maps ≡ map (pointers_of infos) types
    → slice_get maps type.0 ≡ None → None ≡ first_named infos (listed_pointers types type) name
found_by_none infos types maps type name e here = ap (λ o. found_in (option_map by_name o) name) (sym here) ∙ found_for infos types maps type name e

-- One more map stands for one more type.
pub one_type : (named : TypeInfo → List ℕ → Option PtrId) (maps : List (ByName PtrId)) (m : ByName PtrId) (info : TypeInfo) (rest : List TypeInfo) → by_name m ≡ named info
    → map by_name (maps ++ m ∷ []) ++ map named rest ≡ map by_name maps ++ map named (info ∷ rest)
one_type named [] m info rest e = ap (λ f. f ∷ map named rest) e
one_type named (x ∷ maps) m info rest e = ap (λ l. by_name x ∷ l) (one_type named maps m info rest e)
