-- Types of operators, casts and functions.
use Rattle.std.specs.Prelude.{◌≡◌, ◌⊎◌}
use Rattle.ev_value.specs.declared.value.ScalarTy.{ScalarTy}
use Rattle.ev_value.specs.declared.value.ScalarTy.TheVariants as scalar
use Rattle.sql_ast.specs.declared.expression.BinaryOp.{BinaryOp}
use Rattle.sql_ast.specs.declared.expression.BinaryOp.TheVariants as binary
use Rattle.sql_ast.specs.declared.expression.Function.{Function}
use Rattle.sql_ast.specs.declared.expression.Function.TheVariants as function
use Rattle.sql_ast.specs.declared.expression.UnaryOp.{UnaryOp}
use Rattle.sql_ast.specs.declared.expression.UnaryOp.TheVariants as unary
use Rattle.sql_ast.specs.declared.ty.SqlTy.{SqlTy}
use Rattle.sql_ast.specs.declared.ty.SqlTy.TheVariants as ty

abbrev pub INT : SqlTy
INT = ty.Scalar scalar.Int64

abbrev pub TEXT : SqlTy
TEXT = ty.Scalar scalar.Str

abbrev pub BOOL : SqlTy
BOOL = ty.Scalar scalar.Bool

abbrev pub UUID : SqlTy
UUID = ty.Scalar scalar.Uuid

-- the type is INT, TEXT, BOOL or UUID
abbrev pub IsScalar : SqlTy → Type 0
IsScalar t = (s : ScalarTy) × (t ≡ ty.Scalar s)

-- an operator takes an operand of this type and gives that type
abbrev pub UnaryType : UnaryOp → SqlTy → SqlTy → Type 0
UnaryType unary.Neg a t = (a ≡ INT) × (t ≡ INT)
UnaryType unary.Not a t = (a ≡ BOOL) × (t ≡ BOOL)
UnaryType unary.IsNull a t = t ≡ BOOL
UnaryType unary.IsNotNull a t = t ≡ BOOL

-- operands of one type, which gives another
abbrev pub Both : SqlTy → SqlTy → SqlTy → SqlTy → SqlTy → Type 0
Both operand gives a b t = (a ≡ operand) × (b ≡ operand) × (t ≡ gives)

-- a comparison has two operands of one scalar type
abbrev pub Compared : SqlTy → SqlTy → SqlTy → Type 0
Compared a b t = IsScalar a × (b ≡ a) × (t ≡ BOOL)

abbrev pub BinaryType : BinaryOp → SqlTy → SqlTy → SqlTy → Type 0
BinaryType binary.Or a b t = Both BOOL BOOL a b t
BinaryType binary.And a b t = Both BOOL BOOL a b t
BinaryType binary.Eq a b t = Compared a b t
BinaryType binary.Ne a b t = Compared a b t
BinaryType binary.Lt a b t = Compared a b t
BinaryType binary.Le a b t = Compared a b t
BinaryType binary.Gt a b t = Compared a b t
BinaryType binary.Ge a b t = Compared a b t
BinaryType binary.Add a b t = Both INT INT a b t
BinaryType binary.Sub a b t = Both INT INT a b t
BinaryType binary.Concat a b t = Both TEXT TEXT a b t
BinaryType binary.Mul a b t = Both INT INT a b t
BinaryType binary.FloorDiv a b t = Both INT INT a b t
BinaryType binary.Mod a b t = Both INT INT a b t

-- LEN takes a text, the other functions an array whose elements suit
abbrev pub FunctionType : Function → SqlTy → SqlTy → Type 0
FunctionType function.Len a t = (a ≡ TEXT) × (t ≡ INT)
FunctionType function.CountOf a t = (u : SqlTy) × (a ≡ ty.Array u) × (t ≡ INT)
FunctionType function.SumOf a t = (a ≡ ty.Array INT) × (t ≡ INT)
FunctionType function.MinOf a t = IsScalar t × (a ≡ ty.Array t)
FunctionType function.MaxOf a t = IsScalar t × (a ≡ ty.Array t)
FunctionType function.AnyOf a t = (a ≡ ty.Array BOOL) × (t ≡ BOOL)
FunctionType function.AllOf a t = (a ≡ ty.Array BOOL) × (t ≡ BOOL)
FunctionType function.AssertSingle a t = (u : SqlTy) × (a ≡ ty.Array u) × (t ≡ a)
FunctionType function.AssertExists a t = (u : SqlTy) × (a ≡ ty.Array u) × (t ≡ a)
FunctionType function.AssertDistinct a t = (u : SqlTy) × (a ≡ ty.Array u) × (t ≡ a)

-- the casts that there are: from a type to itself, to a text, and from a text
abbrev pub Casts : ScalarTy → ScalarTy → Type 0
Casts scalar.Str b = Unit {0}
Casts a b = (b ≡ a) ⊎ (b ≡ scalar.Str)
