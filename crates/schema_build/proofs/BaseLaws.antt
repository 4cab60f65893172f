-- The numbers of types that names mean are below the number of types.
use Rattle.std.proofs.Common.{◌≡◌, ◌<◌, ◌≤◌, ◌^◌, ℕ, zero, suc, Bool, true, false, List, [], ◌∷◌, length, Option, Some, None, option_map, if◌then◌else◌, Contains, inl, inr, refl, sym, ap, subst, arith, codes}
use Rattle.std.proofs.lemmas.List.Elements.{Contains-append_cases}
use Rattle.std.specs.Str.{bytes_eq}
use Rattle.ast.specs.declared.name.Name.{Name}
use Rattle.ast.specs.declared.name.QualifiedName.{QualifiedName}
use Rattle.core_ir.specs.declared.path.TypeId.{TypeId}
use Rattle.ev_value.specs.declared.value.ScalarTy.{ScalarTy}
use Rattle.sdl_ast.specs.declared.declaration.Decl.{Decl}
use Rattle.sdl_ast.specs.declared.declaration.Decl.TheVariants as decl
use Rattle.schema_build.specs.declared.names.Meant.{Meant}
use Rattle.schema_build.specs.declared.names.Meant.TheVariants as meant
use Rattle.schema_build.specs.Lineage.{object_in, IsSmall, numbers_of, bases_of, at}
use Rattle.ev_names.specs.Names.{place_of}
use Rattle.ev_names.specs.Scalar.{scalar_named}
use Rattle.schema_build.specs.Names.{as_scalar, as_object, or_object, in_module, meaning_of}
use Rattle.schema_build.specs.Search.{AreWithin}
use Rattle.schema_build.specs.Twice.{type_names}
use Rattle.schema_build.proofs.SearchLaws.{none_in, only}

below_if : (here : Bool) (o : Option ℕ) (count n : ℕ) → ((m : ℕ) → o ≡ Some m → m < count) → (if here then Some 0 else option_map suc o) ≡ Some n → n < suc count
below_if true o count n below e = let f : 0 ≡ n = cc in omega arith
below_if false None count n below e = cc
below_if false (Some m) count n below e = let f : suc m ≡ n = cc in omega (arith, below m refl)

place_below : (name : List ℕ) (names : List (List ℕ)) (n : ℕ) → place_of name names ≡ Some n → n < length names
place_below name [] n e = cc
place_below name (x ∷ more) n e = below_if (bytes_eq x name) (place_of name more) (length more) n (λ m f. place_below name more m f) e

-- A number that is meant is below a bound.
abbrev IsBelow : ℕ → Option Meant → Type 0
IsBelow count (Some (meant.Object n)) = n < count
IsBelow count (Some (meant.Scalar s)) = Unit {0}
IsBelow count None = Unit {0}

object_below : (o : Option ℕ) (count : ℕ) → ((m : ℕ) → o ≡ Some m → m < count) → IsBelow count (as_object o)
object_below None count below = tt
object_below (Some m) count below = below m refl

scalar_below : (s : Option ScalarTy) (count : ℕ) → IsBelow count (as_scalar s)
scalar_below None count = tt
scalar_below (Some s) count = tt

either_below : (s : Option ScalarTy) (o : Option ℕ) (count : ℕ) → ((m : ℕ) → o ≡ Some m → m < count) → IsBelow count (or_object s o)
either_below (Some s) o count below = tt
either_below None o count below = object_below o count below

behind_below : (is_default is_std : Bool) (o : Option ℕ) (s : Option ScalarTy) (count : ℕ) → ((m : ℕ) → o ≡ Some m → m < count)
    → IsBelow count (if is_default then as_object o else (if is_std then as_scalar s else None))
behind_below true is_std o s count below = object_below o count below
behind_below false true o s count below = scalar_below s count
behind_below false false o s count below = tt

in_module_below : (types : List (List ℕ)) (m : Option Name) (name : List ℕ) → IsBelow (length types) (in_module types m name)
in_module_below types None name = either_below (scalar_named name) (place_of name types) (length types) (place_below name types)
in_module_below types (Some m) name =
    behind_below (bytes_eq m.text (codes "default")) (bytes_eq m.text (codes "std")) (place_of name types) (scalar_named name) (length types) (place_below name types)

meaning_below : (types : List (List ℕ)) (q : QualifiedName) → IsBelow (length types) (meaning_of types q)
meaning_below types q = in_module_below types q.module q.name.text

small : (count : ℕ) (m : Option Meant) → count < 2 ^ 32 → IsBelow count m → IsSmall m
small count (Some (meant.Object n)) few below = omega arith
small count (Some (meant.Scalar s)) few below = tt
small count None few below = tt

-- Where there are fewer types than 32 bits number, each number that is meant has 32 bits.
pub meaning_small : (types : List (List ℕ)) (q : QualifiedName) → length types < 2 ^ 32 → IsSmall (meaning_of types q)
meaning_small types q few = small (length types) (meaning_of types q) few (meaning_below types q)

object_in_below : (count : ℕ) (m : Option Meant) (b : TypeId) → IsBelow count m → Contains (object_in m) b → b.0 < count
object_in_below count (Some (meant.Object n)) b below h = let e : n ≡ b.0 = ap (λ (x : TypeId). x.0) (only (record { 0 = n }) b h) in omega arith
object_in_below count (Some (meant.Scalar s)) b below h = absurd (none_in b h)
object_in_below count None b below h = absurd (none_in b h)

numbers_below : (types : List (List ℕ)) (names : List QualifiedName) (b : TypeId) → Contains (numbers_of types names) b → b.0 < length types
numbers_below types [] b h = absurd (none_in b h)
numbers_below types (q ∷ more) b h = elim (Contains-append_cases (object_in (meaning_of types q)) (numbers_of types more) b h) [
  | inl own ↦ object_in_below (length types) (meaning_of types q) b (meaning_below types q) own
  | inr rest ↦ numbers_below types more b rest
]

bases_below : (types : List (List ℕ)) (ds : List Decl) (n : ℕ) (b : TypeId) → Contains (at (bases_of types ds) n) b → b.0 < length types
bases_below types [] n b h = absurd (none_in b h)
bases_below types (decl.Type s t ∷ more) zero b h = numbers_below types t.bases b h
bases_below types (decl.Type s t ∷ more) (suc n) b h = bases_below types more n b h
bases_below types (decl.Global s g ∷ more) n b h = bases_below types more n b h

pub bases_counted : (types : List (List ℕ)) (ds : List Decl) → length (bases_of types ds) ≡ length (type_names ds)
bases_counted types [] = refl
bases_counted types (decl.Type s t ∷ more) = ap suc (bases_counted types more)
bases_counted types (decl.Global s g ∷ more) = bases_counted types more

pub types_counted : (ds : List Decl) → length (type_names ds) ≤ length ds
types_counted [] = omega arith
types_counted (decl.Type s t ∷ more) = omega (arith, types_counted more)
types_counted (decl.Global s g ∷ more) = omega (arith, types_counted more)

-- The bases of the types of a text are among them.
pub bases_within : (ds : List Decl) → AreWithin (bases_of (type_names ds) ds)
bases_within ds a b h = subst (λ n. b.0 < n) (sym (bases_counted (type_names ds) ds)) (bases_below (type_names ds) ds a.0 b h)
