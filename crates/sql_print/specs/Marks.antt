-- The words and signs of operators, functions and types, and how tightly expressions bind.
use Rattle.std.specs.Prelude.{ℕ, Bool, ltb, List, [], ◌∷◌, ◌++◌, if◌then◌else◌}
use Rattle.ev_value.specs.declared.value.ScalarTy.{ScalarTy}
use Rattle.ev_value.specs.declared.value.ScalarTy.TheVariants as scalar
use Rattle.ev_list.specs.declared.order.Absent.{Absent}
use Rattle.ev_list.specs.declared.order.Absent.TheVariants as absent
use Rattle.sql_lex.specs.declared.keyword.Keyword.{Keyword}
use Rattle.sql_lex.specs.declared.keyword.Keyword.TheVariants as keyword
use Rattle.sql_lex.specs.declared.token.Sign.TheVariants as sign
use Rattle.sql_lex.specs.declared.token.TokenKind.{TokenKind}
use Rattle.sql_lex.specs.declared.token.TokenKind.TheVariants.{Word, Sign}
use Rattle.sql_ast.specs.declared.expression.BinaryOp.{BinaryOp}
use Rattle.sql_ast.specs.declared.expression.BinaryOp.TheVariants as op
use Rattle.sql_ast.specs.declared.expression.Function.{Function}
use Rattle.sql_ast.specs.declared.expression.Function.TheVariants as function
use Rattle.sql_ast.specs.declared.expression.SqlExpr as e
use Rattle.sql_ast.specs.declared.expression.SqlExpr.{SqlExpr}
use Rattle.sql_ast.specs.declared.expression.UnaryOp.{UnaryOp}
use Rattle.sql_ast.specs.declared.expression.UnaryOp.TheVariants as unary

abbrev pub Tokens : Type 0
Tokens = List TokenKind

-- the word or sign of an operator between two operands
abbrev pub mark_of : BinaryOp → TokenKind
mark_of op.Or = Word keyword.Or
mark_of op.And = Word keyword.And
mark_of op.Eq = Sign sign.Equal
mark_of op.Ne = Sign sign.NotEqual
mark_of op.Lt = Sign sign.Less
mark_of op.Le = Sign sign.LessOrEqual
mark_of op.Gt = Sign sign.Greater
mark_of op.Ge = Sign sign.GreaterOrEqual
mark_of op.Add = Sign sign.Plus
mark_of op.Sub = Sign sign.Minus
mark_of op.Concat = Sign sign.Concat
mark_of op.Mul = Sign sign.Star
mark_of op.FloorDiv = Sign sign.FloorDivide
mark_of op.Mod = Sign sign.Percent

-- how tightly it binds: the loosest is of level 1
abbrev pub level_of_binary : BinaryOp → ℕ
level_of_binary op.Or = 1
level_of_binary op.And = 2
level_of_binary op.Eq = 4
level_of_binary op.Ne = 4
level_of_binary op.Lt = 4
level_of_binary op.Le = 4
level_of_binary op.Gt = 4
level_of_binary op.Ge = 4
level_of_binary op.Add = 5
level_of_binary op.Sub = 5
level_of_binary op.Concat = 5
level_of_binary op.Mul = 6
level_of_binary op.FloorDiv = 6
level_of_binary op.Mod = 6

-- the levels that its operands must have at least: an operator groups to the left, and comparisons do not group
abbrev pub left_level : BinaryOp → ℕ
left_level op.Or = 1
left_level op.And = 2
left_level op.Eq = 5
left_level op.Ne = 5
left_level op.Lt = 5
left_level op.Le = 5
left_level op.Gt = 5
left_level op.Ge = 5
left_level op.Add = 5
left_level op.Sub = 5
left_level op.Concat = 5
left_level op.Mul = 6
left_level op.FloorDiv = 6
left_level op.Mod = 6

abbrev pub right_level : BinaryOp → ℕ
right_level op.Or = 2
right_level op.And = 3
right_level op.Eq = 5
right_level op.Ne = 5
right_level op.Lt = 5
right_level op.Le = 5
right_level op.Gt = 5
right_level op.Ge = 5
right_level op.Add = 6
right_level op.Sub = 6
right_level op.Concat = 6
right_level op.Mul = 7
right_level op.FloorDiv = 7
right_level op.Mod = 7

-- the same for an operator of one operand
abbrev pub level_of_unary : UnaryOp → ℕ
level_of_unary unary.Neg = 7
level_of_unary unary.Not = 3
level_of_unary unary.IsNull = 4
level_of_unary unary.IsNotNull = 4

abbrev pub operand_level : UnaryOp → ℕ
operand_level unary.Neg = 7
operand_level unary.Not = 3
operand_level unary.IsNull = 5
operand_level unary.IsNotNull = 5

-- what stands before its operand, and what behind
abbrev pub before : UnaryOp → Tokens
before unary.Neg = Sign sign.Minus ∷ []
before unary.Not = Word keyword.Not ∷ []
before unary.IsNull = []
before unary.IsNotNull = []

abbrev pub behind : UnaryOp → Tokens
behind unary.Neg = []
behind unary.Not = []
behind unary.IsNull = Word keyword.Is ∷ Word keyword.Null ∷ []
behind unary.IsNotNull = Word keyword.Is ∷ Word keyword.Not ∷ Word keyword.Null ∷ []

-- how tightly an expression binds; all but operators bind as tightly as can be
abbrev pub level_of : SqlExpr → ℕ
level_of (e.Unary' operator _ _) = level_of_unary operator
level_of (e.Binary' operator _ _ _ _) = level_of_binary operator
level_of _ = 8

-- whether an expression needs parentheses where this level is asked for
abbrev pub is_loose : ℕ → SqlExpr → Bool
is_loose level x = ltb (level_of x) level

abbrev pub opening : Bool → Tokens
opening loose = if loose then Sign sign.LeftParen ∷ [] else []

abbrev pub closing : Bool → Tokens
closing loose = if loose then Sign sign.RightParen ∷ [] else []

-- tokens in parentheses, where they are loose
abbrev pub held : Bool → Tokens → Tokens
held loose ts = opening loose ++ (ts ++ closing loose)

-- tokens in parentheses
abbrev pub in_parens : Tokens → Tokens
in_parens ts = Sign sign.LeftParen ∷ (ts ++ Sign sign.RightParen ∷ [])

abbrev pub name_of_function : Function → Keyword
name_of_function function.Len = keyword.Len
name_of_function function.CountOf = keyword.CountOf
name_of_function function.SumOf = keyword.SumOf
name_of_function function.MinOf = keyword.MinOf
name_of_function function.MaxOf = keyword.MaxOf
name_of_function function.AnyOf = keyword.AnyOf
name_of_function function.AllOf = keyword.AllOf
name_of_function function.AssertSingle = keyword.AssertSingle
name_of_function function.AssertExists = keyword.AssertExists
name_of_function function.AssertDistinct = keyword.AssertDistinct

abbrev pub name_of_scalar : ScalarTy → Keyword
name_of_scalar scalar.Int64 = keyword.Int
name_of_scalar scalar.Str = keyword.Text
name_of_scalar scalar.Bool = keyword.Bool
name_of_scalar scalar.Uuid = keyword.Uuid

abbrev pub truth : Bool → Keyword
truth b = if b then keyword.True else keyword.False

abbrev pub name_of_absent : Absent → Keyword
name_of_absent absent.First = keyword.First
name_of_absent absent.Last = keyword.Last
