-- What single tokens stand for.
use Rattle.std.specs.Prelude.{◌==◌, ℕ, ℤ, pos, Bool, true, false, List, [], Option, Some, None, if◌then◌else◌}
use denote.Enum.Bare.{sameb}
use Rattle.sql_lex.specs.contracts.token.Sign.{the_type as sign_type}
use Rattle.sql_lex.specs.contracts.keyword.Keyword.{the_type as keyword_type}
use Rattle.sql_grammar.specs.contracts.class.Start.{the_type as start_type}
use Rattle.sql_lex.specs.declared.token.Token.{Token}
use Rattle.sql_lex.specs.declared.token.TokenKind.{TokenKind}
use Rattle.sql_lex.specs.declared.token.TokenKind.TheVariants as kind
use Rattle.sql_lex.specs.declared.token.Sign.{Sign}
use Rattle.sql_lex.specs.declared.token.Sign.TheVariants as sign
use Rattle.sql_lex.specs.declared.keyword.Keyword.{Keyword}
use Rattle.sql_lex.specs.declared.keyword.Keyword.TheVariants as keyword
use Rattle.std.specs.Int.{w128, from_be_bytes}
use Rattle.std.specs.Option.{option_map}
use Rattle.uuid.specs.Text.{parsed}
use Rattle.ev_value.specs.JsonText.{id_text}
use Rattle.ev_value.specs.declared.value.ScalarTy.{ScalarTy}
use Rattle.ev_value.specs.declared.value.ScalarTy.TheVariants as scalar
use Rattle.ev_list.specs.declared.order.Direction.{Direction}
use Rattle.ev_list.specs.declared.order.Direction.TheVariants as direction
use Rattle.ev_list.specs.declared.order.Absent.{Absent}
use Rattle.ev_list.specs.declared.order.Absent.TheVariants as absent
use Rattle.std.specs.Str.{bytes_eq}
use Rattle.sql_ast.specs.declared.expression.SqlExpr as e
use Rattle.sql_ast.specs.declared.expression.SqlExpr.{SqlExpr}
use Rattle.sql_ast.specs.declared.expression.BinaryOp.{BinaryOp}
use Rattle.sql_ast.specs.declared.expression.BinaryOp.TheVariants as op
use Rattle.sql_ast.specs.declared.expression.Function.{Function}
use Rattle.sql_ast.specs.declared.expression.Function.TheVariants as function
use Rattle.sql_grammar.specs.declared.class.Class.{Class}
use Rattle.sql_grammar.specs.declared.class.Class.TheVariants.{Word, Sign as ASign, Name as AName, Number, Literal}
use Rattle.sql_grammar.specs.declared.class.Start.{Start}
use Rattle.sql_grammar.specs.declared.class.Start.TheVariants as start
use Rattle.sql_grammar.specs.declared.grown.Name.{Name}
use Rattle.sql_grammar.specs.declared.grown.Called.{Called}
use Rattle.sql_grammar.specs.declared.grown.Grown.{Grown}
use Rattle.sql_grammar.specs.Trees.{leaf}

abbrev pub class_of_kind : TokenKind → Class
class_of_kind (kind.Word k) = Word k
class_of_kind (kind.Name name) = AName
class_of_kind (kind.Int n) = Number
class_of_kind (kind.Str text) = Literal
class_of_kind (kind.Sign s) = ASign s

unfoldable pub class_of : Token → Class
class_of t = class_of_kind t.kind

-- ---- signs and keywords

unfoldable pub same_sign : Sign → Sign → Bool
same_sign = sameb sign_type

unfoldable pub same_keyword : Keyword → Keyword → Bool
same_keyword = sameb keyword_type

abbrev pub same_class : Class → Class → Bool
same_class (ASign a) (ASign b) = same_sign a b
same_class (Word a) (Word b) = same_keyword a b
same_class _ _ = false

-- whether the token is this sign or keyword
abbrev pub is : Class → Token → Bool
is c t = same_class c (class_of t)

abbrev pub is_sign : Sign → Token → Bool
is_sign s = is (ASign s)

abbrev pub is_word : Keyword → Token → Bool
is_word k = is (Word k)

-- A sign or keyword stands for its first byte.
abbrev pub mark_of : Class → Token → Option ℕ
mark_of c t = if is c t then Some t.start else None

abbrev pub sign_of : Sign → Token → Option ℕ
sign_of s = mark_of (ASign s)

abbrev pub word_of : Keyword → Token → Option ℕ
word_of k = mark_of (Word k)

-- ---- names and literals

-- the bytes of a name or text
abbrev pub text_in : TokenKind → List ℕ
text_in (kind.Name name) = name
text_in (kind.Str text) = text
text_in _ = []

-- the value of a number
abbrev pub number_in : TokenKind → ℤ
number_in (kind.Int n) = n
number_in _ = pos 0

abbrev pub name_at : Class → List ℕ → ℕ → Option Name
name_at AName text s = Some (record { text = text; start = s })
name_at _ text s = None

abbrev pub name_of : Token → Option Name
name_of t = name_at (class_of t) (text_in t.kind) t.start

abbrev pub literal_at : Class → TokenKind → ℕ → Option Grown
literal_at Number k s = Some (leaf s (e.Int (number_in k)))
literal_at Literal k s = Some (leaf s (e.Text (text_in k)))
literal_at (Word keyword.True) k s = Some (leaf s (e.Bool true))
literal_at (Word keyword.False) k s = Some (leaf s (e.Bool false))
literal_at _ k s = None

-- A number, a text, `TRUE` or `FALSE`.
abbrev pub literal_of : Token → Option Grown
literal_of t = literal_at (class_of t) t.kind t.start

abbrev pub number_at : Class → ℤ → Option ℤ
number_at Number n = Some n
number_at _ n = None

abbrev pub number_of : Token → Option ℤ
number_of t = number_at (class_of t) (number_in t.kind)

abbrev pub text_at : Class → List ℕ → Option (List ℕ)
text_at Literal text = Some text
text_at _ text = None

abbrev pub text_of : Token → Option (List ℕ)
text_of t = text_at (class_of t) (text_in t.kind)

-- the uuid, if the text is just what it prints
abbrev pub printed_id : List ℕ → Option ℕ → Option ℕ
printed_id text None = None
printed_id text (Some id) = if bytes_eq (id_text id) text then Some id else None

abbrev pub id_at : Class → List ℕ → Option ℕ
id_at Literal text = printed_id text (option_map (from_be_bytes w128) (parsed text))
id_at _ text = None

-- A text that a uuid prints stands for it.
abbrev pub id_of : Token → Option ℕ
id_of t = id_at (class_of t) (text_in t.kind)

-- ---- operators, functions, types

abbrev pub operator_in : Class → Option (ℕ × BinaryOp)
operator_in (Word keyword.Or) = Some (1, op.Or)
operator_in (Word keyword.And) = Some (2, op.And)
operator_in (ASign sign.Equal) = Some (4, op.Eq)
operator_in (ASign sign.NotEqual) = Some (4, op.Ne)
operator_in (ASign sign.Less) = Some (4, op.Lt)
operator_in (ASign sign.LessOrEqual) = Some (4, op.Le)
operator_in (ASign sign.Greater) = Some (4, op.Gt)
operator_in (ASign sign.GreaterOrEqual) = Some (4, op.Ge)
operator_in (ASign sign.Plus) = Some (5, op.Add)
operator_in (ASign sign.Minus) = Some (5, op.Sub)
operator_in (ASign sign.Concat) = Some (5, op.Concat)
operator_in (ASign sign.Star) = Some (6, op.Mul)
operator_in (ASign sign.FloorDivide) = Some (6, op.FloorDiv)
operator_in (ASign sign.Percent) = Some (6, op.Mod)
operator_in _ = None

abbrev pub operator_if : ℕ → Option (ℕ × BinaryOp) → Option BinaryOp
operator_if level None = None
operator_if level (Some found) = if found.0 == level then Some found.1 else None

-- An operator of the level, between two operands: the loosest is of level 1.
abbrev pub operator_of : ℕ → Token → Option BinaryOp
operator_of level t = operator_if level (operator_in (class_of t))

abbrev pub function_in : Class → Option Function
function_in (Word keyword.Len) = Some function.Len
function_in (Word keyword.CountOf) = Some function.CountOf
function_in (Word keyword.SumOf) = Some function.SumOf
function_in (Word keyword.MinOf) = Some function.MinOf
function_in (Word keyword.MaxOf) = Some function.MaxOf
function_in (Word keyword.AnyOf) = Some function.AnyOf
function_in (Word keyword.AllOf) = Some function.AllOf
function_in (Word keyword.AssertSingle) = Some function.AssertSingle
function_in (Word keyword.AssertExists) = Some function.AssertExists
function_in (Word keyword.AssertDistinct) = Some function.AssertDistinct
function_in _ = None

abbrev pub called : Option Function → ℕ → Option Called
called None s = None
called (Some f) s = Some (record { function = f; start = s })

abbrev pub function_of : Token → Option Called
function_of t = called (function_in (class_of t)) t.start

abbrev pub scalar_in : Class → Option ScalarTy
scalar_in (Word keyword.Int) = Some scalar.Int64
scalar_in (Word keyword.Text) = Some scalar.Str
scalar_in (Word keyword.Bool) = Some scalar.Bool
scalar_in (Word keyword.Uuid) = Some scalar.Uuid
scalar_in _ = None

abbrev pub scalar_of : Token → Option ScalarTy
scalar_of t = scalar_in (class_of t)

abbrev pub direction_in : Class → Option Direction
direction_in (Word keyword.Asc) = Some direction.Ascending
direction_in (Word keyword.Desc) = Some direction.Descending
direction_in _ = None

abbrev pub direction_of : Token → Option Direction
direction_of t = direction_in (class_of t)

abbrev pub absent_in : Class → Option Absent
absent_in (Word keyword.First) = Some absent.First
absent_in (Word keyword.Last) = Some absent.Last
absent_in _ = None

abbrev pub absent_of : Token → Option Absent
absent_of t = absent_in (class_of t)

-- ---- what a token begins where an expression may stand

abbrev pub start_of_function : Option Function → Start
start_of_function None = start.Nothing
start_of_function (Some f) = start.Call

abbrev pub start_in : Class → Start
start_in AName = start.Column
start_in Number = start.Literal
start_in Literal = start.Literal
start_in (ASign sign.Minus) = start.Minus
start_in (ASign sign.LeftParen) = start.Group
start_in (ASign _) = start.Nothing
start_in (Word keyword.Not) = start.Not
start_in (Word keyword.True) = start.Literal
start_in (Word keyword.False) = start.Literal
start_in (Word keyword.Uuid) = start.Uuid
start_in (Word keyword.Null) = start.Null
start_in (Word keyword.Arg) = start.Arg
start_in (Word keyword.Global) = start.Global
start_in (Word keyword.Array) = start.Array
start_in (Word keyword.Row) = start.Row
start_in (Word keyword.Part) = start.Part
start_in (Word keyword.Case) = start.Case
start_in (Word keyword.Cast) = start.Cast
start_in (Word k) = start_of_function (function_in (Word k))

unfoldable pub same_start : Start → Start → Bool
same_start = sameb start_type

-- whether the token begins such an expression
abbrev pub starts : Start → Token → Bool
starts s t = same_start s (start_in (class_of t))
