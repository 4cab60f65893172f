-- The numbers of pointers and their names.
use Rattle.std.proofs.Common.{◌≡◌, ℕ, zero, suc, List, [], ◌∷◌, ◌++◌, length, map, refl, sym, ap, ◌∙◌, append_assoc, length-append, arith}
use Rattle.std.proofs.lemmas.List.{map-append}
use Rattle.core_ir.specs.declared.path.PtrId.{PtrId}
use Rattle.core_ir.specs.declared.path.TypeId.{TypeId}
use Rattle.ev_schema.specs.declared.pointer.PtrInfo.{PtrInfo}
use Rattle.schema_build.specs.Lineage.{or_none, at, pointer_names, declared_names}
use Rattle.schema_build.specs.Made.{pointer_info, pointers_in, pointers_from, numbers_from, declared_numbers}
use Rattle.sdl_ast.specs.declared.declaration.Decl.{Decl}
use Rattle.sdl_ast.specs.declared.declaration.Decl.TheVariants as decl
use Rattle.sdl_ast.specs.declared.member.Member.{Member}
use Rattle.sdl_ast.specs.declared.member.Member.TheVariants as member
use Rattle.sdl_ast.specs.declared.member.Pointer.{Pointer}
use Rattle.sdl_ast.specs.declared.member.PointerBody.{PointerBody}
use Rattle.sdl_ast.specs.declared.member.PointerBody.TheVariants as body
use Rattle.db_check.proofs.Places.{at_length}
use Rattle.schema_laws.proofs.Texts.{joint}

pub at_front : {A : Type 0} (front back : List (List A)) (x : List A) → at (front ++ x ∷ back) (length front) ≡ x
at_front front back x = ap or_none (at_length front back x)

pub one_more : {A : Type 0} (front : List A) (x : A) → length (front ++ x ∷ []) ≡ suc (length front)
one_more front x = let is = length-append front (x ∷ []) in omega arith

-- the name of the pointer with a number, where all names stand in order of the numbers
abbrev pub named : List (List ℕ) → PtrId → List ℕ
named all p = at all p.0

numbers_named : (front names back : List (List ℕ)) → map (named (front ++ (names ++ back))) (numbers_from (length front) (length names)) ≡ names
numbers_named front [] back = refl
numbers_named front (x ∷ more) back =
    let rest : map (named (front ++ (x ∷ more ++ back))) (numbers_from (suc (length front)) (length more)) ≡ more =
    sym (λ i. map (named (append_assoc front (x ∷ []) (more ++ back) i)) (numbers_from (one_more front x i) (length more))) ∙ numbers_named (front ++ x ∷ []) more back in
    λ i. at_front front (more ++ back) x i ∷ rest i

-- the numbers of the pointers of each type have the names that it declares
pub groups_named : (front : List (List ℕ)) (gs : List (List (List ℕ))) (back : List (List ℕ)) (n : ℕ) → map (named (front ++ (joint gs ++ back))) (at (declared_numbers (length front) gs) n) ≡ at gs n
groups_named front [] back n = refl
groups_named front (g ∷ more) back zero =
    ap (λ l. map (named (front ++ l)) (numbers_from (length front) (length g))) (append_assoc g (joint more) back) ∙ numbers_named front g (joint more ++ back)
groups_named front (g ∷ more) back (suc n) =
    sym (λ i. map (named (all i)) (at (declared_numbers (length-append front g i) more) n)) ∙ groups_named (front ++ g) more back n
  where
    all : (front ++ g) ++ (joint more ++ back) ≡ front ++ ((g ++ joint more) ++ back)
    all = append_assoc front g (joint more ++ back) ∙ ap (λ l. front ++ l) (sym (append_assoc g (joint more) back))

-- ---- the names of all pointers

abbrev pub name_in : PtrInfo → List ℕ
name_in info = info.name

module _ (types : List (List ℕ)) where
  info_named : (origin : TypeId) (p : Pointer) (b : PointerBody) → name_in (pointer_info types origin p b) ≡ p.name.text
  info_named origin p (body.Stored q items) = refl
  info_named origin p (body.Computed e) = refl

  members_named : (origin : TypeId) (ms : List Member) → map name_in (pointers_in types origin ms) ≡ pointer_names ms
  members_named origin [] = refl
  members_named origin (member.Pointer s p ∷ more) = λ i. info_named origin p p.body i ∷ members_named origin more i
  members_named origin (member.Policy s p ∷ more) = members_named origin more
  members_named origin (member.Index s e ∷ more) = members_named origin more
  members_named origin (member.Annotation a ∷ more) = members_named origin more

  pub pointers_named : (n : ℕ) (ds : List Decl) → map name_in (pointers_from types n ds) ≡ joint (declared_names ds)
  pointers_named n [] = refl
  pointers_named n (decl.Type s t ∷ more) =
      map-append name_in (pointers_in types (record { 0 = n }) t.members) (pointers_from types (suc n) more)
      ∙ (λ i. members_named (record { 0 = n }) t.members i ++ pointers_named (suc n) more i)
  pointers_named n (decl.Global s g ∷ more) = pointers_named n more
