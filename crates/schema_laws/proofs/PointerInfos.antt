-- What a built schema says of a pointer.
use Rattle.std.proofs.Common.{◌≡◌, ◌≢◌, ℕ, zero, suc, Bool, true, false, not, List, [], ◌∷◌, ◌++◌, Option, Some, None, slice_get, refl, sym, ap, subst, ◌∙◌}
use Rattle.core_ir.specs.declared.card.Card.TheVariants as card
use Rattle.core_ir.specs.declared.path.TypeId.{TypeId}
use Rattle.core_ir.specs.declared.ty.Ty.{Ty}
use Rattle.core_ir.specs.declared.ty.Ty.TheVariants as ty
use Rattle.ev_schema.specs.Facts.{id_info}
use Rattle.ev_schema.specs.declared.pointer.LinkProperty.{LinkProperty}
use Rattle.ev_schema.specs.declared.pointer.PtrInfo.{PtrInfo}
use Rattle.ev_value.specs.declared.value.ScalarTy.TheVariants as scalar
use Rattle.db_store.specs.Fits.{Each, Ascend, text_before, stored_type}
use Rattle.schema_build.specs.Known.{takes, unknown_body}
use Rattle.schema_build.specs.Least.{least_of}
use Rattle.schema_build.specs.LinkProperties.{is_required, is_multi, repeated_items}
use Rattle.schema_build.specs.Local.{at_decl, at_item, in_body, in_member, in_decl, fails_in}
use Rattle.schema_build.specs.Made.{bounds, type_of, pointer_info, pointers_in, pointers_from}
use Rattle.ast.specs.Name.{start_of}
use Rattle.schema_build.specs.Names.{meaning_of}
use Rattle.schema_build.specs.declared.local.LocalRule.TheVariants as rule
use Rattle.schema_build.specs.declared.names.Meant.{Meant}
use Rattle.schema_build.specs.declared.names.Meant.TheVariants as meant
use Rattle.sdl_ast.specs.declared.declaration.Decl.{Decl}
use Rattle.sdl_ast.specs.declared.declaration.Decl.TheVariants as decl
use Rattle.sdl_ast.specs.declared.member.Member.{Member}
use Rattle.sdl_ast.specs.declared.member.Member.TheVariants as member
use Rattle.sdl_ast.specs.declared.member.Pointer.{Pointer}
use Rattle.sdl_ast.specs.declared.member.PointerBody.{PointerBody}
use Rattle.sdl_ast.specs.declared.member.PointerBody.TheVariants as body
use Rattle.sdl_ast.specs.declared.member.PointerKind.{PointerKind}
use Rattle.db_check.specs.Laws.{is_storable}
use Rattle.db_check.proofs.NoFlaw.{not_false}
use Rattle.db_check.proofs.Repeats.{each_joined}
use Rattle.schema_laws.proofs.LinkOrder.{properties_ascend}
use Rattle.schema_laws.proofs.Passing.{none_sooner, not_at, none_least}

-- what a store asks of one pointer
abbrev pub IsSoundInfo : PtrInfo → Type 0
IsSoundInfo info =
    ((u : Ty) → stored_type info.body ≡ Some u → (is_storable u ≡ true) × (info.card ≢ card.Empty))
    × Ascend (λ (a b : LinkProperty). text_before a.name b.name) info.link_props

never_empty : (a b : Bool) → bounds a b ≢ card.Empty
never_empty false false e = cc
never_empty false true e = cc
never_empty true false e = cc
never_empty true true e = cc

taken_storable : (k : Option PointerKind) (m : Option Meant) → takes k m ≡ true → is_storable (type_of m) ≡ true
taken_storable k None h = absurd (cc)
taken_storable k (Some (meant.Scalar s)) h = refl
taken_storable k (Some (meant.Object n)) h = refl

same_type : (t u : Ty) → Some t ≡ Some u → t ≡ u
same_type t u e = cc

module _ (types : List (List ℕ)) where
  info_sound : (origin : TypeId) (p : Pointer) (k : Option PointerKind) (b : PointerBody) → unknown_body types k b ≡ None → in_body types rule.M6 b ≡ None → IsSoundInfo (pointer_info types origin p b)
  info_sound origin p k (body.Stored q items) known apart =
      let taken = not_false (takes k (meaning_of types q)) (not_at (not (takes k (meaning_of types q))) (start_of q) known) in (
        (λ u e. (ap is_storable (sym (same_type (type_of (meaning_of types q)) u e)) ∙ taken_storable k (meaning_of types q) taken, never_empty (is_required p.qualifiers.need) (is_multi p.qualifiers.width))),
        properties_ascend types items (none_sooner (repeated_items [] items) (least_of (at_item types rule.M6 (meaning_of types q)) items) apart).0,
      )
  info_sound origin p k (body.Computed x) known apart = ((λ u e. absurd (cc)), tt)

  members_sound : (origin : TypeId) (ms : List Member) → Each (λ m. in_member types rule.M2 m ≡ None) ms → Each (λ m. in_member types rule.M6 m ≡ None) ms → Each IsSoundInfo (pointers_in types origin ms)
  members_sound origin [] known apart = tt
  members_sound origin (member.Pointer s p ∷ more) known apart = (
    info_sound origin p p.kind p.body (none_sooner (unknown_body types p.kind p.body) (in_body types rule.M2 p.body) known.0).0 apart.0,
    members_sound origin more known.1 apart.1,
  )
  members_sound origin (member.Policy s p ∷ more) known apart = members_sound origin more known.1 apart.1
  members_sound origin (member.Index s e ∷ more) known apart = members_sound origin more known.1 apart.1
  members_sound origin (member.Annotation a ∷ more) known apart = members_sound origin more known.1 apart.1

  decls_sound : (n : ℕ) (ds : List Decl) → Each (λ d. in_decl types rule.M2 d ≡ None) ds → Each (λ d. in_decl types rule.M6 d ≡ None) ds → Each IsSoundInfo (pointers_from types n ds)
  decls_sound n [] known apart = tt
  decls_sound n (decl.Type s t ∷ more) known apart =
      let inside = none_sooner (at_decl types rule.M2 (decl.Type s t)) (least_of (in_member types rule.M2) t.members) known.0 in
      each_joined IsSoundInfo (pointers_in types (record { 0 = n }) t.members) (pointers_from types (suc n) more)
      (members_sound (record { 0 = n }) t.members (none_least (in_member types rule.M2) t.members inside.1) (none_least (in_member types rule.M6) t.members apart.0))
      (decls_sound (suc n) more known.1 apart.1)
  decls_sound n (decl.Global s g ∷ more) known apart = decls_sound n more known.1 apart.1

uuid_storable : (u : Ty) → Some (ty.Scalar scalar.Uuid) ≡ Some u → is_storable u ≡ true
uuid_storable u e = ap is_storable (sym (same_type (ty.Scalar scalar.Uuid) u e))

one_not_empty : card.One ≢ card.Empty
one_not_empty e = cc

id_sound : IsSoundInfo id_info
id_sound = ((λ u e. (uuid_storable u e, one_not_empty)), tt)

at_sound : (infos : List PtrInfo) (i : ℕ) (info : PtrInfo) → Each IsSoundInfo infos → slice_get infos i ≡ Some info → IsSoundInfo info
at_sound [] i info h e = absurd (cc)
at_sound (x ∷ more) zero info h e = let same : x ≡ info = cc in subst IsSoundInfo same h.0
at_sound (x ∷ more) (suc i) info h e = at_sound more i info h.1 e

-- each pointer of a built schema is sound
pub infos_sound : (types : List (List ℕ)) (ds : List Decl) → fails_in types rule.M2 ds ≡ None → fails_in types rule.M6 ds ≡ None
    → (i : ℕ) (info : PtrInfo) → slice_get (pointers_from types 0 ds ++ id_info ∷ []) i ≡ Some info → IsSoundInfo info
infos_sound types ds known apart i info e =
    at_sound (pointers_from types 0 ds ++ id_info ∷ []) i info
    (each_joined IsSoundInfo (pointers_from types 0 ds) (id_info ∷ [])
    (decls_sound types 0 ds (none_least (in_decl types rule.M2) ds known) (none_least (in_decl types rule.M6) ds apart)) (id_sound, tt)) e
