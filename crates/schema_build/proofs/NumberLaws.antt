-- How many types and pointers a built schema has.
use Rattle.std.proofs.Common.{◌≡◌, ◌<◌, ◌≤◌, ◌+◌, ◌^◌, ℕ, suc, List, [], ◌∷◌, length, refl, ap, ◌∙◌, length-append, arith}
use Rattle.core_ir.specs.declared.path.PtrId.{PtrId}
use Rattle.core_ir.specs.declared.path.TypeId.{TypeId}
use Rattle.ev_schema.specs.Facts.{made_of}
use Rattle.ev_schema.specs.Numbered.{IsNumbered}
use Rattle.ev_schema.proofs.NumberLaws.{made_numbered}
use Rattle.schema_build.specs.Lineage.{pointer_names, declared_names}
use Rattle.schema_build.specs.Made.{pointers_in, pointers_from, declared_numbers, infos_from, globals_of, count_of}
use Rattle.schema_build.specs.Verdict.{schema_of}
use Rattle.sdl_ast.specs.declared.declaration.Decl.{Decl}
use Rattle.sdl_ast.specs.declared.declaration.Decl.TheVariants as decl
use Rattle.sdl_ast.specs.declared.member.Member.{Member}
use Rattle.sdl_ast.specs.declared.member.Member.TheVariants as member

length_infos : (numbers : List (List PtrId)) (lines : List (List TypeId)) (n : ℕ) (ds : List Decl) → length (infos_from numbers lines n ds) ≤ length ds
length_infos numbers lines n [] = omega arith
length_infos numbers lines n (decl.Type s t ∷ more) = let rest = length_infos numbers lines (suc n) more in omega arith
length_infos numbers lines n (decl.Global s g ∷ more) = let rest = length_infos numbers lines n more in omega arith

module _ (types : List (List ℕ)) where
  length_in : (origin : TypeId) (ms : List Member) → length (pointers_in types origin ms) ≡ length (pointer_names ms)
  length_in origin [] = refl
  length_in origin (member.Pointer s p ∷ more) = ap suc (length_in origin more)
  length_in origin (member.Policy s p ∷ more) = length_in origin more
  length_in origin (member.Index s e ∷ more) = length_in origin more
  length_in origin (member.Annotation a ∷ more) = length_in origin more

  length_pointers : (n : ℕ) (ds : List Decl) → length (pointers_from types n ds) ≡ count_of (declared_names ds)
  length_pointers n [] = refl
  length_pointers n (decl.Type s t ∷ more) =
      length-append (pointers_in types (record { 0 = n }) t.members) (pointers_from types (suc n) more)
      ∙ (λ i. length_in (record { 0 = n }) t.members i + length_pointers (suc n) more i)
  length_pointers n (decl.Global s g ∷ more) = length_pointers n more

-- each type and each pointer of the schema of declarations has a number
pub schema_numbered : (ds : List Decl) (types : List (List ℕ)) (lines : List (List TypeId)) → length ds < 2 ^ 32 → count_of (declared_names ds) + 1 < 2 ^ 32 → IsNumbered (schema_of ds types lines)
schema_numbered ds types lines few counted =
    let numbers = declared_numbers 0 (declared_names ds) in
    let infos = length_infos numbers lines 0 ds in
    let pointers = length_pointers types 0 ds in
    made_numbered (infos_from numbers lines 0 ds) (pointers_from types 0 ds) (globals_of types ds) []
    (let few_types : length (infos_from numbers lines 0 ds) < 2 ^ 32 = omega arith in few_types)
    (let few_pointers : length (pointers_from types 0 ds) + 1 < 2 ^ 32 = omega arith in few_pointers)

pub empty_numbered : IsNumbered (made_of [] [] [] [])
empty_numbered = schema_numbered [] [] [] (omega arith) (omega arith)
