-- What the names of types mean.
use Rattle.std.specs.Prelude.{ℕ, Bool, true, false, List, codes, option_map, Option, Some, None, if◌then◌else◌}
use Rattle.std.specs.Str.{bytes_eq}
use Rattle.ast.specs.declared.name.Name.{Name}
use Rattle.ast.specs.declared.name.QualifiedName.{QualifiedName}
use Rattle.ev_names.specs.Names.{place_of}
use Rattle.ev_names.specs.Scalar.{scalar_named}
use Rattle.ev_value.specs.declared.value.ScalarTy.{ScalarTy}
use Rattle.schema_build.specs.declared.names.Meant.{Meant}
use Rattle.schema_build.specs.declared.names.Meant.TheVariants as meant

-- a scalar type, if there is one
abbrev pub as_scalar : Option ScalarTy → Option Meant
as_scalar s = option_map meant.Scalar s

-- the object type with a name, where the names of all are given
abbrev pub as_object : Option ℕ → Option Meant
as_object place = option_map meant.Object place

-- a scalar type, or else the object type at a place, if there is one
abbrev pub or_object : Option ScalarTy → Option ℕ → Option Meant
or_object (Some s) place = Some (meant.Scalar s)
or_object None place = as_object place

-- what a name means behind a module: an object type behind `default`, a scalar type behind `std`, and nothing behind any other
abbrev pub behind : List (List ℕ) → List ℕ → List ℕ → Option Meant
behind types m name =
    if bytes_eq m (codes "default") then as_object (place_of name types) else
    (if bytes_eq m (codes "std") then as_scalar (scalar_named name) else None)

-- what a name means alone, or behind a module
abbrev pub in_module : List (List ℕ) → Option Name → List ℕ → Option Meant
in_module types None name = or_object (scalar_named name) (place_of name types)
in_module types (Some m) name = behind types m.text name

-- the type that a name means
abbrev pub meaning_of : List (List ℕ) → QualifiedName → Option Meant
meaning_of types q = in_module types q.module q.name.text

-- whether an object type is meant
abbrev pub is_object : Option Meant → Bool
is_object (Some (meant.Object t)) = true
is_object (Some (meant.Scalar s)) = false
is_object None = false

-- whether a scalar type is meant
abbrev pub is_scalar : Option Meant → Bool
is_scalar (Some (meant.Scalar s)) = true
is_scalar (Some (meant.Object t)) = false
is_scalar None = false
