-- What single tokens stand for.
use Rattle.std.specs.Prelude.{ℕ, ◌==◌, ◌||◌, Bool, true, false, List, [], Option, Some, None, if◌then◌else◌}
use denote.Enum.Bare.{sameb}
use Rattle.ev_lex.specs.contracts.token.Sign.{the_type as sign_type}
use Rattle.ev_lex.specs.contracts.keyword.Keyword.{the_type as keyword_type}
use Rattle.ev_lex.specs.declared.token.Token.{Token}
use Rattle.ev_lex.specs.declared.token.TokenKind.{TokenKind}
use Rattle.ev_lex.specs.declared.token.TokenKind.TheVariants as kind
use Rattle.ev_lex.specs.declared.token.Sign.{Sign}
use Rattle.ev_lex.specs.declared.token.Sign.TheVariants as sign
use Rattle.ev_lex.specs.declared.keyword.Keyword.{Keyword}
use Rattle.ev_lex.specs.declared.keyword.Keyword.TheVariants as keyword
use Rattle.ev_lex.specs.Keyword.{keyword_of, is_reserved}
use Rattle.ast.specs.declared.name.Span.{Span}
use Rattle.ast.specs.declared.name.Name.{Name}
use Rattle.ast.specs.declared.expression.Expr.{Expr}
use Rattle.ast.specs.declared.expression.Expr as e
use Rattle.ast.specs.declared.operator.BinaryOperator.{BinaryOperator}
use Rattle.ast.specs.declared.operator.BinaryOperator.TheVariants as op
use Rattle.ast.specs.declared.operator.UnaryOperator.TheVariants as unary
use Rattle.ast.specs.declared.shape.Need.{Need}
use Rattle.ast.specs.declared.shape.Need.TheVariants as need
use Rattle.ast.specs.declared.shape.Width.{Width}
use Rattle.ast.specs.declared.shape.Width.TheVariants as width
use Rattle.ast.specs.declared.statement.EmptyPlace.{EmptyPlace}
use Rattle.ast.specs.declared.statement.EmptyPlace.TheVariants as empty
use Rattle.eql_grammar.specs.declared.class.Class.{Class}
use Rattle.eql_grammar.specs.declared.class.Class.TheVariants.{Sign as ASign, Reserved, Named, Number, Literal}
use Rattle.eql_grammar.specs.declared.grown.Leveled.{Leveled}
use Rattle.eql_grammar.specs.declared.grown.Infix.{Infix}
use Rattle.eql_grammar.specs.declared.grown.Prefix.{Prefix}
use Rattle.eql_grammar.specs.declared.grown.Qualified.{Qualified}
use Rattle.eql_grammar.specs.declared.grown.Direction.{Direction}
use Rattle.eql_grammar.specs.declared.grown.Placement.{Placement}

-- the class of a keyword
abbrev pub word_class : Keyword → Class
word_class k = if is_reserved k then Reserved k else Named (Some k)

abbrev pub class_of_word : Option Keyword → Class
class_of_word None = Named None
class_of_word (Some k) = word_class k

abbrev pub class_of_kind : TokenKind → Class
class_of_kind (kind.Word w) = class_of_word (keyword_of w)
class_of_kind (kind.Int digits) = Number
class_of_kind (kind.Str text) = Literal
class_of_kind (kind.Sign s) = ASign s

unfoldable pub class_of : Token → Class
class_of t = class_of_kind t.kind

-- the bytes of a token
abbrev pub span : Token → Span
span t = record { start = t.start; end = t.end }

-- its text: that of a word, the digits of a number, what a literal stands for
abbrev pub text_of : TokenKind → List ℕ
text_of (kind.Word w) = w
text_of (kind.Int digits) = digits
text_of (kind.Str text) = text
text_of (kind.Sign s) = []

-- ---- signs and keywords

unfoldable pub same_sign : Sign → Sign → Bool
same_sign = sameb sign_type

unfoldable pub same_keyword : Keyword → Keyword → Bool
same_keyword = sameb keyword_type

abbrev pub same_class : Class → Class → Bool
same_class (ASign a) (ASign b) = same_sign a b
same_class (Reserved a) (Reserved b) = same_keyword a b
same_class (Named (Some a)) (Named (Some b)) = same_keyword a b
same_class _ _ = false

-- whether the token is of the class of this sign or keyword
abbrev pub is : Class → Token → Bool
is c t = same_class c (class_of t)

-- whether the token is this sign
abbrev pub is_sign : Sign → Token → Bool
is_sign s = is (ASign s)

-- whether the token is this keyword, without regard to case
abbrev pub is_word : Keyword → Token → Bool
is_word k = is (word_class k)

-- A sign or keyword stands for its place.
abbrev pub mark_of : Class → Token → Option Span
mark_of c t = if is c t then Some (span t) else None

abbrev pub sign_of : Sign → Token → Option Span
sign_of s = mark_of (ASign s)

abbrev pub word_of : Keyword → Token → Option Span
word_of k = mark_of (word_class k)

abbrev pub comma_of : Token → Option (Unit {0})
comma_of t = if is_sign sign.Comma t then Some tt else None

-- whether the token begins a statement
abbrev pub is_statement : Token → Bool
is_statement t = is_word keyword.With t || (is_word keyword.For t || is_word keyword.Select t)

-- whether the token is `for` or `select`, which end the aliases
abbrev pub ends_aliases : Token → Bool
ends_aliases t = is_word keyword.For t || is_word keyword.Select t

-- what the one or the other of two keywords stands for
abbrev pub either_word : {A : Type 0} → Keyword → A → Keyword → A → Token → Option A
either_word k a l b t = if is_word k t then Some a else (if is_word l t then Some b else None)

-- ---- names and literals

abbrev pub name_in : Class → TokenKind → Span → Option Name
name_in (Named k) text s = Some (record { text = text_of text; span = s })
name_in _ text s = None

-- A name is a word that is not reserved.
abbrev pub name_of : Token → Option Name
name_of t = name_in (class_of t) t.kind (span t)

abbrev pub parameter_in : Class → TokenKind → Span → Option Name
parameter_in (Named k) text s = Some (record { text = text_of text; span = s })
parameter_in Number text s = Some (record { text = text_of text; span = s })
parameter_in _ text s = None

-- The name of a parameter is a name or a number.
abbrev pub parameter_of : Token → Option Name
parameter_of t = parameter_in (class_of t) t.kind (span t)

abbrev pub number_or_text : Class → TokenKind → Span → Option Expr → Option Expr
number_or_text Number text s else_ = Some (e.Int s (text_of text))
number_or_text Literal text s else_ = Some (e.Str s (text_of text))
number_or_text _ text s else_ = else_

-- A number, a text, `true` or `false`.
abbrev pub literal_of : Token → Option Expr
literal_of t = number_or_text (class_of t) t.kind (span t) (either_word keyword.True (e.Bool (span t) true) keyword.False (e.Bool (span t) false) t)

-- ---- operators

abbrev pub at_level : ℕ → BinaryOperator → Option Leveled
at_level level operator = Some (record { level = level; operator = operator })

abbrev pub infix_in : Class → Option Leveled
infix_in (Reserved keyword.Union) = at_level 1 op.Union
infix_in (Reserved keyword.Intersect) = at_level 1 op.Intersect
infix_in (Reserved keyword.Except) = at_level 1 op.Except
infix_in (Reserved keyword.Or) = at_level 3 op.Or
infix_in (Reserved keyword.And) = at_level 4 op.And
infix_in (ASign sign.Equal) = at_level 6 op.Equal
infix_in (ASign sign.NotEqual) = at_level 6 op.NotEqual
infix_in (ASign sign.OptionalEqual) = at_level 6 op.OptionalEqual
infix_in (ASign sign.OptionalNotEqual) = at_level 6 op.OptionalNotEqual
infix_in (ASign sign.Less) = at_level 6 op.Less
infix_in (ASign sign.LessOrEqual) = at_level 6 op.LessOrEqual
infix_in (ASign sign.Greater) = at_level 6 op.Greater
infix_in (ASign sign.GreaterOrEqual) = at_level 6 op.GreaterOrEqual
infix_in (Reserved keyword.Like) = at_level 6 op.Like
infix_in (Reserved keyword.Ilike) = at_level 6 op.Ilike
infix_in (Reserved keyword.In) = at_level 6 op.In
infix_in (ASign sign.Plus) = at_level 7 op.Add
infix_in (ASign sign.Minus) = at_level 7 op.Subtract
infix_in (ASign sign.Concat) = at_level 7 op.Concat
infix_in (ASign sign.Star) = at_level 8 op.Multiply
infix_in (ASign sign.FloorDivide) = at_level 8 op.FloorDivide
infix_in (ASign sign.Percent) = at_level 8 op.Remainder
infix_in (ASign sign.Coalesce) = at_level 9 op.Coalesce
infix_in _ = None

abbrev pub infix_if : ℕ → Option Leveled → Span → Option Infix
infix_if level None s = None
infix_if level (Some found) s = if found.level == level then Some (record { operator = found.operator; place = s }) else None

-- An operator of the level, between two operands.
abbrev pub infix_of : ℕ → Token → Option Infix
infix_of level t = infix_if level (infix_in (class_of t)) (span t)

abbrev pub prefix_in : Class → Span → Option Prefix
prefix_in (ASign sign.Minus) s = Some (record { operator = unary.Negate; place = s })
prefix_in (ASign sign.Plus) s = Some (record { operator = unary.Keep; place = s })
prefix_in (Reserved keyword.Distinct) s = Some (record { operator = unary.Distinct; place = s })
prefix_in (Reserved keyword.Exists) s = Some (record { operator = unary.Exists; place = s })
prefix_in _ s = None

-- `-`, `+`, `distinct` or `exists` before an operand.
abbrev pub prefix_of : Token → Option Prefix
prefix_of t = prefix_in (class_of t) (span t)

-- ---- words of elements and keys

abbrev pub needed : Need → Token → Qualified
needed n t = record { start = t.start; qualifiers = record { need = Some n; width = None } }

-- `required` or `optional`.
abbrev pub need_of : Token → Option Qualified
need_of t = either_word keyword.Required (needed need.Required t) keyword.Optional (needed need.Optional t) t

abbrev pub wide : Width → Token → Qualified
wide w t = record { start = t.start; qualifiers = record { need = None; width = Some w } }

-- `single` or `multi`.
abbrev pub width_of : Token → Option Qualified
width_of t = either_word keyword.Single (wide width.Single t) keyword.Multi (wide width.Multi t) t

abbrev pub directed : Bool → Token → Direction
directed descending t = record { descending = descending; end = t.end }

-- `asc` or `desc`.
abbrev pub direction_of : Token → Option Direction
direction_of t = either_word keyword.Asc (directed false t) keyword.Desc (directed true t) t

abbrev pub put : EmptyPlace → Token → Placement
put place t = record { place = place; end = t.end }

-- `first` or `last`.
abbrev pub place_of : Token → Option Placement
place_of t = either_word keyword.First (put empty.First t) keyword.Last (put empty.Last t) t
