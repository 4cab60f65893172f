-- Which surface trees are built over a schema, and as what: numbers, sums, braces, parentheses round these, and as a whole query a step to a property.
use Rattle.std.specs.Prelude.{◌≡◌, ℕ, suc, Bool, true, false, ◌&&◌, if◌then◌else◌, List, [], ◌∷◌, Result, Ok, Err, Option, Some, None, option_map, option_and_then, slice_get}
use Rattle.std.specs.Str.{bytes_eq}
use Rattle.ev_value.specs.Casts.{number_written, int64_in}
use Rattle.ev_value.specs.declared.operator.Op.TheVariants as op
use Rattle.ast.specs.Expression.{span_of, bare}
use Rattle.ast.specs.declared.name.Name.{Name}
use Rattle.ast.specs.declared.expression.Expr as e
use Rattle.ast.specs.declared.expression.Expr.{Row_of-Expr, end_of-Expr, more_of-Expr}
use Rattle.ast.specs.declared.expression.Postfix.{Postfix}
use Rattle.ast.specs.declared.expression.Step.{Step}
use Rattle.ast.specs.declared.expression.Step.TheVariants as postfix
use Rattle.ast.specs.declared.operator.BinaryOperator.{BinaryOperator}
use Rattle.ast.specs.declared.operator.BinaryOperator.TheVariants as operator
use Rattle.ast.specs.declared.statement.Clauses.{Clauses}
use Rattle.ast.specs.declared.statement.Query.{Query}
use Rattle.ast.specs.declared.statement.Statement as s
use Rattle.ast.specs.declared.statement.Statement.{Row_of-Alias, end_of-Alias, Row_of-Key, end_of-Key, None'}
use Rattle.ast.specs.declared.statement.Alias.{Alias}
use Rattle.core_ir.specs.Card.{is_single}
use Rattle.core_ir.specs.declared.path.PtrId.{PtrId}
use Rattle.core_ir.specs.declared.path.Root.TheVariants as root
use Rattle.core_ir.specs.declared.path.Step.TheVariants as step
use Rattle.core_ir.specs.declared.path.TypeId.{TypeId}
use Rattle.core_ir.specs.declared.tree.Expr.{Expr}
use Rattle.core_ir.specs.declared.tree.Expr.TheVariants as expr
use Rattle.core_ir.specs.declared.tree.Scope.{Scope}
use Rattle.core_ir.specs.declared.ty.Ty as ty
use Rattle.ev_schema.specs.Pointers.{pointer_named}
use Rattle.ev_schema.specs.declared.pointer.Body.{Body}
use Rattle.ev_schema.specs.declared.pointer.Body.TheVariants as body
use Rattle.ev_schema.specs.declared.pointer.PtrInfo.{PtrInfo}
use Rattle.ev_schema.specs.declared.schema.Schema.{Schema}
use Rattle.ev_schema.specs.declared.types.TypeInfo.{TypeInfo}
use Rattle.eql_forms.specs.declared.built.BuildError.{BuildError}
use Rattle.eql_forms.specs.declared.built.BuildError.TheVariants as build_error

-- the number that digits write, where it has 64 bits
abbrev pub number : ℕ → List ℕ → Option Expr
number start digits = option_map (expr.Literal start) (option_and_then int64_in (number_written digits))

-- of the operators between two operands, `+` alone is built
abbrev pub sum : ℕ → BinaryOperator → Option Expr → Option Expr → Option Expr
sum start operator.Add (Some left) (Some right) = Some (expr.Operation start op.Add (left ∷ right ∷ []))
sum _ _ _ _ = None

-- braces are built where they hold one element at the least, and each is built
abbrev pub braces : ℕ → Option (List Scope) → Option Expr
braces start (Some (first ∷ rest)) = Some (expr.Set start (first ∷ rest))
braces _ _ = None

-- a scope of a tree, if there is one
abbrev pub scope_at : ℕ → Option Expr → Option Scope
scope_at start tree = option_map (λ (x : Expr). record { start = start; ty = None; body = x }) tree

-- an element in front of others, where each is built
abbrev pub joined : Option Scope → Option (List Scope) → Option (List Scope)
joined (Some first) (Some rest) = Some (first ∷ rest)
joined _ _ = None

unfoldable mutual
  -- The tree of an expression: a number, a sum, braces, or one of these in parentheses. No other form is built.
  pub built : e.Expr → Option Expr
  built (e.Int at digits) = number at.start digits
  built (e.Group' _ _ (more_of-Expr inner end_of-Expr)) = built inner
  built (e.Set' at _ elements) = braces at.start (built_row elements)
  built (e.Binary' at found _ _ (more_of-Expr left end_of-Expr) _ (more_of-Expr right end_of-Expr)) = sum at.start found (built left) (built right)
  built _ = None

  pub built_row : {m : _} → Row_of-Expr m → Option (List Scope)
  built_row end_of-Expr = Some []
  built_row (more_of-Expr first rest) = joined (scope_at (span_of first).start (built first)) (built_row rest)

-- an element between braces, from its first byte on
abbrev pub element : e.Expr → Option Scope
element x = scope_at (span_of x).start (built x)

-- the elements of several expressions, one after the other
abbrev pub built_all : List e.Expr → Option (List Scope)
built_all [] = Some []
built_all (first ∷ rest) = joined (element first) (built_all rest)

-- the type with a name, abstract or not; the first type of the list has the number k
abbrev pub type_from : ℕ → List TypeInfo → List ℕ → Option TypeId
type_from k [] n = None
type_from k (info ∷ more) n = if bytes_eq info.name n then Some (record { 0 = k }) else type_from (suc k) more n

-- whether values are stored, and are neither objects nor arrays
abbrev pub is_property : Body → Bool
is_property (body.Stored (ty.Scalar _)) = true
is_property _ = false

-- whether a pointer is known, and is a stored property with at most one value
abbrev pub is_stored_property : Option PtrInfo → Bool
is_stored_property None = false
is_stored_property (Some info) = is_property info.body && is_single info.card

-- a pointer of a type, if it is a stored property with at most one value
abbrev pub property_if : Schema → TypeId → Option PtrId → Option (TypeId × PtrId)
property_if schema t None = None
property_if schema t (Some p) = if is_stored_property (slice_get schema.pointers p.0) then Some (t, p) else None

-- a type, if it is known, and its pointer with a name, if that is such a property
abbrev pub property_of : Schema → Option TypeId → List ℕ → Option (TypeId × PtrId)
property_of schema None name = None
property_of schema (Some t) name = property_if schema t (pointer_named schema t name)

-- a type and its stored property with at most one value, by their names
abbrev pub stored_property : Schema → List ℕ → List ℕ → Option (TypeId × PtrId)
stored_property schema type name = property_of schema (type_from 0 schema.types type) name

-- the path from the objects of a type to the values of a property
abbrev pub path_to : ℕ → List ℕ → ℕ → Option (TypeId × PtrId) → Option Expr
path_to start type place None = None
path_to start type place (Some (t, p)) =
    Some (expr.Path start (record { name = type; path = record { root = root.Extent t; steps = step.Prop p ∷ [] }; places = place ∷ [] }))

-- a type's name that no module stands before, and a step behind it
abbrev pub step_path : Schema → ℕ → Option Name → List ℕ → ℕ → Step → Option Expr
step_path schema start None type place (postfix.Dot name) = path_to start type place (stored_property schema type name.text)
step_path _ _ _ _ _ _ = None

-- a step behind an expression, which is a name
abbrev pub base_path : Schema → ℕ → e.Expr → Postfix → Option Expr
base_path schema start (e.Name _ type) p = step_path schema start type.module type.name.text p.span.start p.step
base_path _ _ _ _ = None

-- a step
abbrev pub bare_path : Schema → e.Expr → Option Expr
bare_path schema (e.Postfix' at _ (more_of-Expr base end_of-Expr) p) = base_path schema at.start base p
bare_path _ _ = None

-- The path that an expression is: a type's name and a step to a stored property with at most one value, in parentheses or not.
abbrev pub path : Schema → e.Expr → Option Expr
path schema x = bare_path schema (bare x)

-- the first tree, and the other one where there is none
abbrev pub or_else : Option Expr → Option Expr → Option Expr
or_else (Some x) other = Some x
or_else None other = other

-- the scope of a subject, from its first byte on
abbrev pub subject : Schema → e.Expr → Option Scope
subject schema x = scope_at (span_of x).start (or_else (built x) (path schema x))

-- no clause stands behind the subject
abbrev pub HasNone : Clauses → Type 0
HasNone c = (c.filter ≡ None) × (c.order ≡ []) × (c.offset ≡ None) × (c.limit ≡ None)

-- nor an alias before it
abbrev pub IsPlain : List Alias → Clauses → Type 0
IsPlain aliases c = (aliases ≡ []) × HasNone c

-- whether no alias stands in a row of them
abbrev pub no_alias : {m : _} → Row_of-Alias m → Bool
no_alias end_of-Alias = true
no_alias _ = false

-- whether no key stands in a row of them
abbrev pub no_key : {m : _} → Row_of-Key m → Bool
no_key end_of-Key = true
no_key _ = false

-- The tree of a statement: of a `select` without aliases and clauses, that of its subject. No other statement is built.
unfoldable pub built_statement : Schema → s.Statement → Option Scope
built_statement schema (s.Select' _ _ aliases _ (more_of-Expr x end_of-Expr) None' _ order None' None') =
    if no_alias aliases && no_key order then subject schema x else None
built_statement _ _ = None

-- the tree of a query over a schema
abbrev pub built_query : Schema → Query → Option Scope
built_query schema query = built_statement schema query.statement

-- the code answers the tree, or that there is none, or that memory ran out
abbrev pub IsBuilt : {A : Type 0} → Result A BuildError → Option A → Type 0
IsBuilt (Ok tree) due = due ≡ Some tree
IsBuilt (Err build_error.Unbuilt) due = due ≡ None
IsBuilt (Err build_error.Memory) due = Unit {0}
