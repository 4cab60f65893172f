-- The pointers of a type differ in their names.
use Rattle.std.proofs.Common.{◌≡◌, ℕ, zero, suc, false, List, [], ◌∷◌, ◌++◌, length, map, flat_map, codes, Option, Some, None, option_map, slice_get, refl, sym, ap, ◌∙◌, subst, append_assoc}
use Rattle.std.proofs.lemmas.List.{map-append}
use Rattle.std.proofs.lemmas.Option.{slice_get-map}
use Rattle.core_ir.specs.declared.path.PtrId.{PtrId}
use Rattle.core_ir.specs.declared.path.TypeId.{TypeId}
use Rattle.ev_schema.specs.Facts.{id_info}
use Rattle.ev_schema.specs.Types.{pointers_if_known, listed_pointers}
use Rattle.ev_schema.specs.declared.pointer.PtrInfo.{PtrInfo}
use Rattle.ev_schema.specs.declared.types.TypeInfo.{TypeInfo}
use Rattle.db_store.specs.Fits.{Each, name_of}
use Rattle.schema_build.specs.Least.{at_if}
use Rattle.schema_build.specs.Lineage.{or_none, at, pointer_names, declared_names, repeats_a_name, line_shares_a_name, clashes, clashing_from, clashing}
use Rattle.schema_build.specs.Made.{pointers_from, declared_numbers, pointers_along, infos_from}
use Rattle.sdl_ast.specs.declared.declaration.Decl.{Decl}
use Rattle.sdl_ast.specs.declared.declaration.Decl.TheVariants as decl
use Rattle.db_check.specs.Laws.{NamesDiffer}
use Rattle.db_check.proofs.NoFlaw.{neither}
use Rattle.schema_laws.proofs.Passing.{none_sooner, not_at}
use Rattle.schema_laws.proofs.Texts.{Differ, joint, differ_of, groups_differ, named_differ}
use Rattle.schema_laws.proofs.Numbered.{at_front, one_more, named, groups_named, name_in, pointers_named}

-- ---- no type declares a name twice

own_once : (lines : List (List TypeId)) (front : List (List (List ℕ))) (ds : List Decl) → clashing_from (front ++ declared_names ds) lines (length front) ds ≡ None → Each Differ (declared_names ds)
own_once lines front [] e = tt
own_once lines front (decl.Type s t ∷ more) e =
    let names = pointer_names t.members in
    let all = front ++ names ∷ declared_names more in
    let both = none_sooner (at_if (clashes all lines (length front)) s.start) (clashing_from all lines (suc (length front)) more) e in
    let once = (neither (repeats_a_name (at all (length front))) (line_shares_a_name all (at all (length front)) (at lines (length front))) (not_at (clashes all lines (length front)) s.start both.0)).0 in (
      differ_of names (sym (ap repeats_a_name (at_front front (declared_names more) names)) ∙ once),
      own_once lines (front ++ names ∷ []) more
          ((λ i. clashing_from (append_assoc front (names ∷ []) (declared_names more) i) lines (one_more front names i) more) ∙ both.1),
    )
own_once lines front (decl.Global s g ∷ more) e = own_once lines front more e

at_each : {A : Type 0} (P : List A → Type 0) (xs : List (List A)) (n : ℕ) → P [] → Each P xs → P (at xs n)
at_each P [] n none h = none
at_each P (x ∷ xs) zero none h = h.0
at_each P (x ∷ xs) (suc n) none h = at_each P xs n none h.1

-- ---- nor has it one from two types

module _ (names : List (List (List ℕ))) (lines : List (List TypeId)) (numbers : List (List PtrId)) where
  -- the pointers are those along the line of a type that has no name twice
  abbrev HasOwnNames : TypeInfo → Type 0
  HasOwnNames info = (m : ℕ) × (info.pointers ≡ pointers_along numbers (at numbers m) (at lines m)) × (clashes names lines m ≡ false)

  type_at : (n : ℕ) (ds : List Decl) (i : ℕ) (info : TypeInfo) → clashing_from names lines n ds ≡ None → slice_get (infos_from numbers lines n ds) i ≡ Some info → HasOwnNames info
  type_at n [] i info e f = absurd (cc)
  type_at n (decl.Type s t ∷ more) zero info e f =
      let both = none_sooner (at_if (clashes names lines n) s.start) (clashing_from names lines (suc n) more) e in
      (n, ap (λ o. pointers_if_known o) (sym f), not_at (clashes names lines n) s.start both.0)
  type_at n (decl.Type s t ∷ more) (suc i) info e f =
      type_at (suc n) more i info (none_sooner (at_if (clashes names lines n) s.start) (clashing_from names lines (suc n) more) e).1 f
  type_at n (decl.Global s g ∷ more) i info e f = type_at n more i info e f

each_along : (names : List (List (List ℕ))) (line : List TypeId) → Each Differ names → Each Differ (map (λ (t : TypeId). at names t.0) line)
each_along names [] h = tt
each_along names (t ∷ more) h = (at_each Differ names t.0 tt h, each_along names more h)

joint_along : (names : List (List (List ℕ))) (line : List TypeId) → joint (map (λ (t : TypeId). at names t.0) line) ≡ flat_map (λ (t : TypeId). at names t.0) line
joint_along names [] = refl
joint_along names (t ∷ more) = ap (λ l. at names t.0 ++ l) (joint_along names more)

module _ (all back : List (List ℕ)) (names : List (List (List ℕ))) (whole : all ≡ joint names ++ back) where
  own_named : (n : ℕ) → map (named all) (at (declared_numbers 0 names) n) ≡ at names n
  own_named n = ap (λ l. map (named l) (at (declared_numbers 0 names) n)) whole ∙ groups_named [] names back n

  line_named : (line : List TypeId) → map (named all) (flat_map (λ (t : TypeId). at (declared_numbers 0 names) t.0) line) ≡ flat_map (λ (t : TypeId). at names t.0) line
  line_named [] = refl
  line_named (t ∷ more) =
      map-append (named all) (at (declared_numbers 0 names) t.0) (flat_map (λ (u : TypeId). at (declared_numbers 0 names) u.0) more)
      ∙ (λ i. own_named t.0 i ++ line_named more i)

  -- the names of the pointers along a line
  along_named : (n : ℕ) (line : List TypeId) → map (named all) (pointers_along (declared_numbers 0 names) (at (declared_numbers 0 names) n) line) ≡ joint (at names n ∷ map (λ (t : TypeId). at names t.0) line)
  along_named n line =
      map-append (named all) (at (declared_numbers 0 names) n) (flat_map (λ (u : TypeId). at (declared_numbers 0 names) u.0) line)
      ∙ (λ i. own_named n i ++ (line_named line ∙ sym (joint_along names line)) i)

  along_differ : (lines : List (List TypeId)) (n : ℕ) → Each Differ names → clashes names lines n ≡ false → NamesDiffer (named all) (pointers_along (declared_numbers 0 names) (at (declared_numbers 0 names) n) (at lines n))
  along_differ lines n once h =
      let line = at lines n in
      let groups = at names n ∷ map (λ (t : TypeId). at names t.0) line in
      named_differ (named all) (pointers_along (declared_numbers 0 names) (at (declared_numbers 0 names) n) line)
      (subst Differ (sym (along_named n line))
      (groups_differ groups (neither (repeats_a_name (at names n)) (line_shares_a_name names (at names n) line) h).1 (at_each Differ names n tt once, each_along names line once)))

-- ---- so the names of its pointers differ

name_if : (o : Option PtrInfo) → or_none (option_map name_in o) ≡ name_of o
name_if None = refl
name_if (Some info) = refl

module _ (types : List (List ℕ)) (ds : List Decl) (lines : List (List TypeId)) (passes : clashing lines ds ≡ None) where
  whole_named : map name_in (pointers_from types 0 ds ++ id_info ∷ []) ≡ joint (declared_names ds) ++ codes "id" ∷ []
  whole_named = map-append name_in (pointers_from types 0 ds) (id_info ∷ []) ∙ ap (λ l. l ++ codes "id" ∷ []) (pointers_named types 0 ds)

  same_name : (p : PtrId) → named (map name_in (pointers_from types 0 ds ++ id_info ∷ [])) p ≡ name_of (slice_get (pointers_from types 0 ds ++ id_info ∷ []) p.0)
  same_name p = ap or_none (slice_get-map name_in (pointers_from types 0 ds ++ id_info ∷ []) p.0) ∙ name_if (slice_get (pointers_from types 0 ds ++ id_info ∷ []) p.0)

  names_of : (o : Option TypeInfo) (i : ℕ) → slice_get (infos_from (declared_numbers 0 (declared_names ds)) lines 0 ds) i ≡ o
      → NamesDiffer (λ (p : PtrId). name_of (slice_get (pointers_from types 0 ds ++ id_info ∷ []) p.0)) (pointers_if_known o)
  names_of None i e = tt
  names_of (Some info) i e =
      let is = type_at (declared_names ds) lines (declared_numbers 0 (declared_names ds)) 0 ds i info passes e in
      let all = map name_in (pointers_from types 0 ds ++ id_info ∷ []) in
      subst (λ (f : PtrId → List ℕ). NamesDiffer f info.pointers) (λ j p. same_name p j)
      (subst (NamesDiffer (named all)) (sym is.1) (along_differ all (codes "id" ∷ []) (declared_names ds) whole_named lines is.0 (own_once lines [] ds passes) is.2))

  -- no two pointers of a type have one name
  pub pointers_differ : (t : TypeId) → NamesDiffer (λ (p : PtrId). name_of (slice_get (pointers_from types 0 ds ++ id_info ∷ []) p.0)) (listed_pointers (infos_from (declared_numbers 0 (declared_names ds)) lines 0 ds) t)
  pointers_differ t = names_of (slice_get (infos_from (declared_numbers 0 (declared_names ds)) lines 0 ds) t.0) t.0 refl
