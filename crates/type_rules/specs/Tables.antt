-- The tables: what each operator, function and cast gives for the types of its operands.
use Rattle.std.specs.Prelude.{Bool, true, false, ◌&&◌, if◌then◌else◌, List, [], ◌∷◌, Option, Some, None}
use Rattle.ev_value.specs.declared.operator.Op.{Op}
use Rattle.ev_value.specs.declared.operator.Op.TheVariants as op
use Rattle.ev_value.specs.declared.value.ScalarTy.{ScalarTy}
use Rattle.ev_value.specs.declared.value.ScalarTy.TheVariants.{Int64, Str, Bool as Truth, Uuid}
use Rattle.ev_value.specs.declared.value.Val.{Val}
use Rattle.ev_value.specs.declared.value.Val as val
use Rattle.core_ir.specs.declared.tree.SetFunction.{SetFunction}
use Rattle.core_ir.specs.declared.tree.SetFunction.TheVariants as function
use Rattle.core_ir.specs.declared.ty.Ty.{Ty}
use Rattle.core_ir.specs.declared.ty.Ty as ty
use Rattle.core_ir.specs.declared.ty.Ty.TheVariants.{Scalar, Array}
use Rattle.ev_schema.specs.declared.types.TypeInfo.{TypeInfo}
use Rattle.type_rules.specs.Agreement.{same_scalar, related}

-- the type of a literal, which is a value of a scalar type
abbrev pub literal : Val → Option ScalarTy
literal (val.Int _) = Some Int64
literal (val.Str _) = Some Str
literal (val.Bool _) = Some Truth
literal (val.Id _) = Some Uuid
literal _ = None

-- whether a type is this scalar type
abbrev pub is_of : ScalarTy → Ty → Bool
is_of scalar (ty.Scalar other) = same_scalar scalar other
is_of scalar _ = false

-- whether there is one type, which is this scalar type
abbrev pub is_one : ScalarTy → List Ty → Bool
is_one scalar (t ∷ []) = is_of scalar t
is_one scalar _ = false

-- whether there are two types, and both are this scalar type
abbrev pub are_two : ScalarTy → List Ty → Bool
are_two scalar (a ∷ b ∷ []) = is_of scalar a && is_of scalar b
are_two scalar _ = false

-- a scalar type, where something holds
abbrev pub when : Bool → ScalarTy → Option Ty
when true scalar = Some (Scalar scalar)
when false scalar = None

-- Whether two types have an order: they are one scalar type or one array type.
abbrev pub ordered : Ty → Ty → Bool
ordered (ty.Scalar a) (ty.Scalar b) = same_scalar a b
ordered (ty.Array a) (ty.Array b) = same_scalar a b
ordered _ _ = false

-- whether there are two types, and they have an order
abbrev pub in_order : List Ty → Bool
in_order (a ∷ b ∷ []) = ordered a b
in_order _ = false

module _ (types : List TypeInfo) where
  -- Whether values of two types can be equal: they have an order, or are objects of related types.
  abbrev pub comparable : Ty → Ty → Bool
  comparable (ty.Object a) (ty.Object b) = related types a b
  comparable a b = ordered a b

  -- whether there are two types, and their values can be equal
  abbrev pub can_equal : List Ty → Bool
  can_equal (a ∷ b ∷ []) = comparable a b
  can_equal _ = false

  -- The type that an operator_type or a plain function gives, by the types of its operands.
  abbrev pub operator_type : Op → List Ty → Option Ty
  operator_type op.Add ts = when (are_two Int64 ts) Int64
  operator_type op.Sub ts = when (are_two Int64 ts) Int64
  operator_type op.Mul ts = when (are_two Int64 ts) Int64
  operator_type op.FloorDiv ts = when (are_two Int64 ts) Int64
  operator_type op.Mod ts = when (are_two Int64 ts) Int64
  operator_type op.Neg ts = when (is_one Int64 ts) Int64
  operator_type op.Concat ts = when (are_two Str ts) Str
  operator_type op.Len ts = when (is_one Str ts) Int64
  operator_type op.Eq ts = when (can_equal ts) Truth
  operator_type op.Ne ts = when (can_equal ts) Truth
  operator_type op.Lt ts = when (in_order ts) Truth
  operator_type op.Le ts = when (in_order ts) Truth
  operator_type op.Gt ts = when (in_order ts) Truth
  operator_type op.Ge ts = when (in_order ts) Truth
  operator_type op.And ts = when (are_two Truth ts) Truth
  operator_type op.Or ts = when (are_two Truth ts) Truth
  operator_type op.Not ts = when (is_one Truth ts) Truth

-- The type that a function of a whole set gives, by the type of the set's items.
abbrev pub function_type : SetFunction → Ty → Option Ty
function_type function.Count t = Some (Scalar Int64)
function_type function.Sum (ty.Scalar Int64) = Some (Scalar Int64)
function_type function.Min (ty.Scalar s) = Some (Scalar s)
function_type function.Max (ty.Scalar s) = Some (Scalar s)
function_type function.Any (ty.Scalar Truth) = Some (Scalar Truth)
function_type function.All (ty.Scalar Truth) = Some (Scalar Truth)
function_type function.Exists t = Some (Scalar Truth)
function_type function.Distinct t = Some t
function_type function.AssertSingle t = Some t
function_type function.AssertExists t = Some t
function_type function.AssertDistinct t = Some t
function_type function.ArrayAgg (ty.Scalar s) = Some (Array s)
function_type _ _ = None

-- whether values of a type can be cast to a scalar type: to their own, to text, or from text
abbrev pub can_cast : Ty → ScalarTy → Bool
can_cast (ty.Scalar from) Str = true
can_cast (ty.Scalar Str) to = true
can_cast (ty.Scalar from) to = same_scalar from to
can_cast _ to = false

-- the one scalar type that some types are
abbrev pub same_as : ScalarTy → List Ty → Option ScalarTy
same_as scalar [] = Some scalar
same_as scalar (t ∷ more) = if is_of scalar t then same_as scalar more else None

-- The type of an array's elements: the one scalar type that all have, or the one that is written where there are none.
abbrev pub elements_type : Option ScalarTy → List Ty → Option ScalarTy
elements_type written [] = written
elements_type written (ty.Scalar scalar ∷ more) = same_as scalar more
elements_type written _ = None
