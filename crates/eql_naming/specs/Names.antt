-- What names mean over a schema.
use Rattle.std.specs.Prelude.{ℕ, Bool, true, false, ◌||◌, if◌then◌else◌, List, codes, Option, Some, None, option_map, option_and_then, is_some}
use Rattle.std.specs.Str.{bytes_eq}
use Rattle.ast.specs.declared.name.Name.{Name}
use Rattle.ast.specs.declared.name.QualifiedName.{QualifiedName}
use Rattle.core_ir.specs.declared.path.TypeId.{TypeId}
use Rattle.core_ir.specs.declared.tree.SetFunction.TheVariants as of_set
use Rattle.ev_names.specs.Scalar.{scalar_named}
use Rattle.ev_schema.specs.Named.{type_named}
use Rattle.ev_schema.specs.declared.schema.Schema.{Schema}
use Rattle.ev_value.specs.declared.value.ScalarTy.{ScalarTy}
use Rattle.eql_naming.specs.declared.meaning.Meant.{Meant}
use Rattle.eql_naming.specs.declared.meaning.Meant.TheVariants as meant
use Rattle.eql_naming.specs.declared.meaning.Function.{Function}
use Rattle.eql_naming.specs.declared.meaning.Function.TheVariants as function

-- a scalar type, if there is one
abbrev pub as_scalar : Option ScalarTy → Option Meant
as_scalar s = option_map meant.Scalar s

-- an object type, if there is one
abbrev pub as_object : Option TypeId → Option Meant
as_object t = option_map meant.Object t

-- a scalar type, or else an object type, if there is one
abbrev pub or_object : Option ScalarTy → Option TypeId → Option Meant
or_object (Some s) t = Some (meant.Scalar s)
or_object None t = as_object t

-- whether a name has the module `std` or `default`, or none
abbrev pub is_module : Option Name → Bool
is_module None = true
is_module (Some m) = bytes_eq m.text (codes "std") || bytes_eq m.text (codes "default")

-- what a type's name means behind a module: a scalar type behind `std`, else an object type
abbrev pub type_behind : Schema → List ℕ → List ℕ → Option Meant
type_behind schema of name = if bytes_eq of (codes "std") then as_scalar (scalar_named name) else as_object (type_named schema.types name)

-- the type that a name means: alone a scalar type before an object type
abbrev pub type_in : Schema → Option Name → List ℕ → Option Meant
type_in schema None name = or_object (scalar_named name) (type_named schema.types name)
type_in schema (Some m) name = type_behind schema m.text name

abbrev pub type_meant : Schema → QualifiedName → Option Meant
type_meant schema q = type_in schema q.module q.name.text

-- an object type, where it is one
abbrev pub object_of : Option Meant → Option TypeId
object_of (Some (meant.Object t)) = Some t
object_of _ = None

-- the functions
abbrev pub function_named : List ℕ → Option Function
function_named name =
    if bytes_eq name (codes "count") then Some (function.OfSet of_set.Count) else
    (if bytes_eq name (codes "sum") then Some (function.OfSet of_set.Sum) else
    (if bytes_eq name (codes "min") then Some (function.OfSet of_set.Min) else
    (if bytes_eq name (codes "max") then Some (function.OfSet of_set.Max) else
    (if bytes_eq name (codes "any") then Some (function.OfSet of_set.Any) else
    (if bytes_eq name (codes "all") then Some (function.OfSet of_set.All) else
    (if bytes_eq name (codes "len") then Some function.Len else
    (if bytes_eq name (codes "assert_single") then Some (function.OfSet of_set.AssertSingle) else
    (if bytes_eq name (codes "assert_exists") then Some (function.OfSet of_set.AssertExists) else
    (if bytes_eq name (codes "assert_distinct") then Some (function.OfSet of_set.AssertDistinct) else
    (if bytes_eq name (codes "array_agg") then Some (function.OfSet of_set.ArrayAgg) else
    (if bytes_eq name (codes "array_unpack") then Some function.Unpack else None)))))))))))

-- the function that a name means: alone or behind `std`
abbrev pub function_in : Option Name → List ℕ → Option Function
function_in None name = function_named name
function_in (Some m) name = if bytes_eq m.text (codes "std") then function_named name else None

abbrev pub function_meant : QualifiedName → Option Function
function_meant q = function_in q.module q.name.text
