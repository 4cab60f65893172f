-- Which types a type extends. M3: a type that extends itself. M4: names of pointers that are not one pointer.
use Rattle.std.specs.Prelude.{◌≡◌, ◌↔◌, ◌<◌, ◌^◌, ℕ, suc, ◌||◌, Bool, List, [], ◌∷◌, ◌++◌, length, map, Option, Some, None, slice_get}
use Rattle.std.specs.List.{list_any, Contains}
use Rattle.std.specs.Str.{bytes_eq}
use Rattle.ast.specs.declared.name.QualifiedName.{QualifiedName}
use Rattle.core_ir.specs.declared.path.TypeId.{TypeId}
use Rattle.ev_list.specs.Occurrence.{has_repeat}
use Rattle.ev_schema.specs.Types.{same_type}
use Rattle.sdl_ast.specs.declared.declaration.Decl.{Decl}
use Rattle.sdl_ast.specs.declared.declaration.Decl.TheVariants as decl
use Rattle.sdl_ast.specs.declared.member.Member.{Member}
use Rattle.sdl_ast.specs.declared.member.Member.TheVariants as member
use Rattle.schema_build.specs.declared.names.Meant.{Meant}
use Rattle.schema_build.specs.declared.names.Meant.TheVariants as meant
use Rattle.schema_build.specs.Least.{at_if, sooner}
use Rattle.ev_names.specs.Names.{is_among}
use Rattle.schema_build.specs.Names.{meaning_of}

-- the number of the object type that is meant, if one is
abbrev pub object_in : Option Meant → List TypeId
object_in (Some (meant.Object n)) = record { 0 = n } ∷ []
object_in (Some (meant.Scalar s)) = []
object_in None = []

-- the number of an object type has 32 bits
abbrev pub IsSmall : Option Meant → Type 0
IsSmall (Some (meant.Object n)) = n < 2 ^ 32
IsSmall (Some (meant.Scalar s)) = Unit {0}
IsSmall None = Unit {0}

module _ (types : List (List ℕ)) where
  -- the numbers of the object types that some names mean
  abbrev pub numbers_of : List QualifiedName → List TypeId
  numbers_of [] = []
  numbers_of (q ∷ more) = object_in (meaning_of types q) ++ numbers_of more

  -- the types that each type extends directly, as they are written
  abbrev pub bases_of : List Decl → List (List TypeId)
  bases_of [] = []
  bases_of (decl.Type s t ∷ more) = numbers_of t.bases ∷ bases_of more
  bases_of (decl.Global s g ∷ more) = bases_of more

-- a list, or the empty one where there is none
abbrev pub or_none : {A : Type 0} → Option (List A) → List A
or_none None = []
or_none (Some l) = l

-- what stands in a list of lists under a number
abbrev pub at : {A : Type 0} → List (List A) → ℕ → List A
at lists n = or_none (slice_get lists n)

-- a type extends another directly
abbrev pub IsBase : List (List TypeId) → TypeId → TypeId → Type 0
IsBase bases a b = Contains (at bases a.0) b

-- A type extends another: directly, or through one that it extends directly.
pub data Extends (bases : List (List TypeId)) : TypeId → TypeId → Type 0 where
  directly : (a b : TypeId) → IsBase bases a b → Extends bases a b
  through : (a b c : TypeId) → IsBase bases a b → Extends bases b c → Extends bases a c

-- numbers that rise
abbrev pub Rises : List TypeId → Type 0
Rises [] = Unit {0}
Rises (a ∷ more) = ((b : TypeId) → Contains more b → a.0 < b.0) × Rises more

-- the types that a type extends at any distance, each once and in the order of the text
abbrev pub IsLineage : List (List TypeId) → TypeId → List TypeId → Type 0
IsLineage bases a line = Rises line × ((b : TypeId) → Contains line b ↔ Extends bases a b)

-- the lineage of each type
abbrev pub AreLineages : List (List TypeId) → List (List TypeId) → Type 0
AreLineages bases lines = (length lines ≡ length bases) × ((a : TypeId) → a.0 < length bases → IsLineage bases a (at lines a.0))

-- whether the type with a number is of its own lineage
abbrev pub extends_itself : List (List TypeId) → ℕ → Bool
extends_itself lines n = list_any (same_type (record { 0 = n })) (at lines n)

module _ (lines : List (List TypeId)) where
  -- M3: the least byte of a type that extends itself; the first type of the list has the number n
  abbrev pub circular_from : ℕ → List Decl → Option ℕ
  circular_from n [] = None
  circular_from n (decl.Type s t ∷ more) = sooner (at_if (extends_itself lines n) s.start) (circular_from (suc n) more)
  circular_from n (decl.Global s g ∷ more) = circular_from n more

  -- M3: the least byte of a type that extends itself
  abbrev pub circular : List Decl → Option ℕ
  circular ds = circular_from 0 ds

-- the name of a pointer
abbrev pub pointer_name : Member → List (List ℕ)
pointer_name (member.Pointer s p) = p.name.text ∷ []
pointer_name (member.Policy s p) = []
pointer_name (member.Index s e) = []
pointer_name (member.Annotation a) = []

-- the names of the pointers that a type declares
abbrev pub pointer_names : List Member → List (List ℕ)
pointer_names [] = []
pointer_names (m ∷ more) = pointer_name m ++ pointer_names more

-- the names of the pointers that each type declares
abbrev pub declared_names : List Decl → List (List (List ℕ))
declared_names [] = []
declared_names (decl.Type s t ∷ more) = pointer_names t.members ∷ declared_names more
declared_names (decl.Global s g ∷ more) = declared_names more

-- some name of the second is among the first
abbrev pub shares : List (List ℕ) → List (List ℕ) → Bool
shares a b = list_any (λ name. is_among name a) b

-- a name that is written twice
abbrev pub repeats_a_name : List (List ℕ) → Bool
repeats_a_name names = has_repeat bytes_eq names

-- some two types declare one name: among one that declares its own names and those of a line
abbrev pub line_shares_a_name : List (List (List ℕ)) → List (List ℕ) → List TypeId → Bool
line_shares_a_name names own line = has_repeat shares (own ∷ map (λ (t : TypeId). at names t.0) line)

module _ (names : List (List (List ℕ))) (lines : List (List TypeId)) where
  -- A type declares one name twice, or has one name from two types.
  abbrev pub clashes : ℕ → Bool
  clashes n = repeats_a_name (at names n) || line_shares_a_name names (at names n) (at lines n)

  -- M4: the least byte of a type whose names of pointers clash; the first type of the list has the number n
  abbrev pub clashing_from : ℕ → List Decl → Option ℕ
  clashing_from n [] = None
  clashing_from n (decl.Type s t ∷ more) = sooner (at_if (clashes n) s.start) (clashing_from (suc n) more)
  clashing_from n (decl.Global s g ∷ more) = clashing_from n more

-- M4: the least byte of a type whose names of pointers clash
abbrev pub clashing : List (List TypeId) → List Decl → Option ℕ
clashing lines ds = clashing_from (declared_names ds) lines 0 ds
