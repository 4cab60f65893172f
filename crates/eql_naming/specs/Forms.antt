-- The rule of each form of an expression, over the rules of its parts.
use Rattle.std.specs.Prelude.{ℕ, pos, Bool, true, false, List, [], ◌∷◌, codes, Option, Some, None, option_and_then, is_some, length, ◌-◌}
use Rattle.std.specs.Str.{bytes_eq}
use Rattle.plan.specs.Ruled.{gives, refuses, must, known, fresh, ◌>>=◌, ◌>>◌}
use Rattle.ast.specs.Name.{start_of}
use Rattle.ast.specs.declared.expression.Expr as read
use Rattle.ast.specs.declared.expression.Expr.{Row_of-Expr, end_of-Expr, more_of-Expr}
use Rattle.ast.specs.declared.expression.Parameter.{Parameter}
use Rattle.ast.specs.declared.name.Name.{Name}
use Rattle.ast.specs.declared.name.QualifiedName.{QualifiedName}
use Rattle.ast.specs.declared.name.Span.{Span}
use Rattle.ast.specs.declared.operator.BinaryOperator.{BinaryOperator}
use Rattle.ast.specs.declared.operator.BinaryOperator.TheVariants as binary_operator
use Rattle.ast.specs.declared.operator.UnaryOperator.{UnaryOperator}
use Rattle.ast.specs.declared.operator.UnaryOperator.TheVariants as unary_operator
use Rattle.core_ir.specs.declared.tree.Expr.{Expr}
use Rattle.core_ir.specs.declared.tree.Expr.TheVariants as expr
use Rattle.core_ir.specs.declared.tree.Misfit.TheVariants as misfit
use Rattle.core_ir.specs.declared.tree.Order.{Order}
use Rattle.core_ir.specs.declared.tree.Order.TheVariants as order
use Rattle.core_ir.specs.declared.tree.Scope.{Scope}
use Rattle.core_ir.specs.declared.tree.SetFunction.{SetFunction}
use Rattle.core_ir.specs.declared.tree.SetFunction.TheVariants as of_set
use Rattle.core_ir.specs.declared.ty.Ty.TheVariants as ty
use Rattle.ev_schema.specs.declared.schema.Schema.{Schema}
use Rattle.ev_schema.specs.declared.types.GlobalInfo.{GlobalInfo}
use Rattle.ev_index.specs.Globals.{global_type}
use Rattle.ev_value.specs.Casts.{number_written, int64_in}
use Rattle.ev_value.specs.declared.operator.Op.{Op}
use Rattle.ev_value.specs.declared.operator.Op.TheVariants as op
use Rattle.ev_value.specs.declared.value.Val.{Val}
use Rattle.ev_value.specs.declared.value.Val.TheVariants as val
use Rattle.eql_naming.specs.declared.forms.Joint.{Joint}
use Rattle.eql_naming.specs.declared.forms.Joint.TheVariants as joint
use Rattle.eql_naming.specs.declared.meaning.Function.{Function}
use Rattle.eql_naming.specs.declared.meaning.Function.TheVariants as function
use Rattle.eql_naming.specs.declared.meaning.Meant.{Meant}
use Rattle.eql_naming.specs.declared.meaning.Meant.TheVariants as meant
use Rattle.eql_naming.specs.declared.refusal.NameRule.TheVariants.{N1, N7}
use Rattle.eql_naming.specs.declared.refusal.NameRefusal.TheVariants.{Rule}
use Rattle.eql_naming.specs.Names.{is_module, function_meant}
use Rattle.eql_naming.specs.Naming.{Naming}
use Rattle.eql_naming.specs.Paths.{scope_at, type_of}

-- The number that digits write. A token's digits always write one of 64 bits.
abbrev pub number_or_zero : Option Val → Val
number_or_zero (Some v) = v
number_or_zero None = val.Int (pos 0)

abbrev pub number : List ℕ → Val
number digits = number_or_zero (option_and_then int64_in (number_written digits))

-- `global name`, where the name begins at a byte
unfoldable pub global : Schema → ℕ → Name → Naming Expr
global schema start name = do
  t ← known (global_type schema.globals name.text) (Rule N1 name.span.start)
  gives (expr.Global start name.text)

-- an operator or a function of one operand
abbrev pub operated_alone : ℕ → Op → Expr → Expr
operated_alone start o x = expr.Operation start o (x ∷ [])

-- a function of a whole set, whose text begins at a byte
abbrev pub of_set_of : ℕ → SetFunction → ℕ → Expr → Expr
of_set_of start f from x = expr.OfSet start f (scope_at from x)

-- a function of one argument, which is an expression with the first byte of its text
abbrev pub applied : ℕ → Function → ℕ → Expr → Expr
applied start function.Len from x = operated_alone start op.Len x
applied start function.Unpack from x = expr.Unpack start x
applied start (function.OfSet f) from x = of_set_of start f from x

unfoldable pub called : QualifiedName → Naming Function
called q = do
  _ ← must (is_module q.module) (Rule N7 (start_of q))
  known (function_meant q) (Rule N1 (start_of q))

-- a call with one argument
unfoldable pub call : ℕ → QualifiedName → ℕ → Naming Expr → Naming Expr
call start q from argument = do
  f ← called q
  x ← argument
  gives (applied start f from x)

-- a call with no argument or several: typing refuses it
unfoldable pub call_of_many : ℕ → QualifiedName → Naming (List Expr) → Naming Expr
call_of_many start q arguments = do
  f ← called q
  xs ← arguments
  gives (expr.Unfit start misfit.ArgumentCount start xs)

unfoldable pub tuple : ℕ → Naming (List Expr) → Naming Expr
tuple start parts = do
  xs ← parts
  gives (expr.Tuple start xs)

unfoldable pub set : ℕ → Naming (List Scope) → Naming Expr
set start elements = do
  xs ← elements
  gives (expr.Set start xs)

-- whether no expression stands in a row of them
abbrev pub no_expression : {m : _} → Row_of-Expr m → Bool
no_expression end_of-Expr = true
no_expression _ = false

-- whether an expression is `{}`, in parentheses or not
abbrev pub is_empty_set : read.Expr → Bool
is_empty_set (read.Group' _ _ (more_of-Expr inner end_of-Expr)) = is_empty_set inner
is_empty_set (read.Set' _ _ elements) = no_expression elements
is_empty_set x = false

-- a cast of an expression
abbrev pub cast_to : ℕ → Expr → Meant → Expr
cast_to start x (meant.Scalar t) = expr.Cast start t x
cast_to start x (meant.Object t) = expr.Unfit start misfit.ObjectCast start (x ∷ [])

unfoldable pub cast : Schema → ℕ → QualifiedName → Naming Expr → Naming Expr
cast schema start q operand = do
  m ← type_of schema q
  x ← operand
  gives (cast_to start x m)

-- a cast of `{}`
abbrev pub empty_of : ℕ → Meant → Expr
empty_of start (meant.Scalar t) = expr.EmptySet start (ty.Scalar t)
empty_of start (meant.Object t) = expr.Unfit start misfit.ObjectCast start []

unfoldable pub empty_cast : Schema → ℕ → QualifiedName → Naming Expr
empty_cast schema start q = do
  m ← type_of schema q
  gives (empty_of start m)

-- the byte of the token behind `$`
abbrev pub name_place : Parameter → ℕ
name_place p = p.span.end - length p.name

-- a parameter of a type
abbrev pub parameter_of : ℕ → Parameter → Meant → Expr
parameter_of start p (meant.Scalar t) = expr.Param start (record { name = p.name; ty = t; optional = p.optional })
parameter_of start p (meant.Object t) = expr.Unfit start misfit.ObjectCast start []

-- a parameter under its cast, where parameters may be known or not
unfoldable pub parameter : Schema → Bool → ℕ → Parameter → Naming Expr
parameter schema parameters start p = do
  m ← type_of schema p.ty
  _ ← must parameters (Rule N1 (name_place p))
  gives (parameter_of start p m)

-- an operator before its operand, which has the first byte of its text
abbrev pub prefixed : ℕ → UnaryOperator → ℕ → Expr → Expr
prefixed start unary_operator.Not from x = operated_alone start op.Not x
prefixed start unary_operator.Negate from x = operated_alone start op.Neg x
prefixed start unary_operator.Keep from x = expr.Plus start x
prefixed start unary_operator.Distinct from x = of_set_of start of_set.Distinct from x
prefixed start unary_operator.Exists from x = of_set_of start of_set.Exists from x

unfoldable pub unary : ℕ → UnaryOperator → ℕ → Naming Expr → Naming Expr
unary start operator from operand = do
  x ← operand
  gives (prefixed start operator from x)

-- how each operator joins its operands; four are no part of the language here
abbrev pub joint_of : BinaryOperator → Joint
joint_of binary_operator.Union = joint.Sets
joint_of binary_operator.Intersect = joint.Unknown
joint_of binary_operator.Except = joint.Unknown
joint_of binary_operator.Or = joint.Items op.Or
joint_of binary_operator.And = joint.Items op.And
joint_of binary_operator.Equal = joint.Items op.Eq
joint_of binary_operator.NotEqual = joint.Items op.Ne
joint_of binary_operator.OptionalEqual = joint.Optional false
joint_of binary_operator.OptionalNotEqual = joint.Optional true
joint_of binary_operator.Less = joint.Items op.Lt
joint_of binary_operator.LessOrEqual = joint.Items op.Le
joint_of binary_operator.Greater = joint.Items op.Gt
joint_of binary_operator.GreaterOrEqual = joint.Items op.Ge
joint_of binary_operator.Like = joint.Unknown
joint_of binary_operator.Ilike = joint.Unknown
joint_of binary_operator.In = joint.Member false
joint_of binary_operator.NotIn = joint.Member true
joint_of binary_operator.Add = joint.Items op.Add
joint_of binary_operator.Subtract = joint.Items op.Sub
joint_of binary_operator.Concat = joint.Items op.Concat
joint_of binary_operator.Multiply = joint.Items op.Mul
joint_of binary_operator.FloorDivide = joint.Items op.FloorDiv
joint_of binary_operator.Remainder = joint.Items op.Mod
joint_of binary_operator.Coalesce = joint.Default

-- an operator of the items of its operands
abbrev pub operated : ℕ → Op → Expr → Expr → Expr
operated start o x y = expr.Operation start o (x ∷ y ∷ [])

-- two operands, which have the first bytes of their texts, joined so
abbrev pub joined_by : Joint → ℕ → ℕ → Expr → ℕ → Expr → Option Expr
joined_by (joint.Items o) start l x r y = Some (operated start o x y)
joined_by joint.Sets start l x r y = Some (expr.Union start (scope_at l x) (scope_at r y))
joined_by (joint.Optional negated) start l x r y = Some (expr.OptionalEqual start negated x y)
joined_by (joint.Member negated) start l x r y = Some (expr.In start negated x (scope_at r y))
joined_by joint.Default start l x r y = Some (expr.Coalesce start x (scope_at r y))
joined_by joint.Unknown start l x r y = None

abbrev pub joined : ℕ → BinaryOperator → ℕ → Expr → ℕ → Expr → Option Expr
joined start operator l x r y = joined_by (joint_of operator) start l x r y

unfoldable pub binary : ℕ → BinaryOperator → ℕ → ℕ → Naming Expr → ℕ → Naming Expr → Naming Expr
binary start operator place l left r right = do
  x ← left
  y ← right
  known (joined start operator l x r y) (Rule N7 place)

-- a choice of its parts
abbrev pub chosen : ℕ → Order → Expr → ℕ → Expr → ℕ → Expr → Expr
chosen start o c v x w y = expr.If start (record { order = o; condition = c; value = scope_at v x; other = scope_at w y })

-- `value if condition else other`, with the first bytes of both branches
unfoldable pub if_else : ℕ → ℕ → Naming Expr → Naming Expr → ℕ → Naming Expr → Naming Expr
if_else start v value condition w other = do
  x ← value
  c ← condition
  y ← other
  gives (chosen start order.ValueFirst c v x w y)

-- `if condition then value else other`
unfoldable pub if_then : ℕ → Naming Expr → ℕ → Naming Expr → ℕ → Naming Expr → Naming Expr
if_then start condition v value w other = do
  c ← condition
  x ← value
  y ← other
  gives (chosen start order.ConditionFirst c v x w y)
