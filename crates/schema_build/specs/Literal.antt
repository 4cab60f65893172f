-- The literals of schemas: a number, a number behind `-`, a text, `true` and `false`. Parentheses round one of these, or round
-- the number behind `-`, are no part of it.
use Rattle.std.specs.Prelude.{ℕ, List, neg_ℤ, Option, Some, None, option_and_then}
use Rattle.ast.specs.Expression.{bare}
use Rattle.ast.specs.declared.expression.Expr as e
use Rattle.ast.specs.declared.expression.Expr.{end_of-Expr, more_of-Expr}
use Rattle.ast.specs.declared.operator.UnaryOperator.{UnaryOperator}
use Rattle.ast.specs.declared.operator.UnaryOperator.TheVariants as operator
use Rattle.ev_value.specs.Casts.{number_written, int64_in}
use Rattle.ev_value.specs.declared.value.ScalarTy.{ScalarTy}
use Rattle.ev_value.specs.declared.value.ScalarTy.TheVariants as scalar
use Rattle.ev_value.specs.declared.value.Val.{Val}
use Rattle.ev_value.specs.declared.value.Val as val
use Rattle.ev_value.specs.declared.value.Val.TheVariants as made

-- the digits of a number alone, round which no parentheses stand
unfoldable pub bare_digits : e.Expr → Option (List ℕ)
bare_digits (e.Int _ digits) = Some digits
bare_digits _ = None

-- the digits of a number alone
abbrev pub digits_of : e.Expr → Option (List ℕ)
digits_of x = bare_digits (bare x)

-- of the operators before an operand, `-` alone stands before a number
abbrev pub signed_type : UnaryOperator → Option (List ℕ) → Option ScalarTy
signed_type operator.Negate (Some digits) = Some scalar.Int64
signed_type _ _ = None

-- the type of a literal round which no parentheses stand; nothing else has one
unfoldable pub bare_type : e.Expr → Option ScalarTy
bare_type (e.Int _ _) = Some scalar.Int64
bare_type (e.Str _ _) = Some scalar.Str
bare_type (e.Bool _ _) = Some scalar.Bool
bare_type (e.Unary' _ found _ (more_of-Expr operand end_of-Expr)) = signed_type found (digits_of operand)
bare_type _ = None

-- the type of a literal
abbrev pub literal_type : e.Expr → Option ScalarTy
literal_type x = bare_type (bare x)

-- the number that digits write, where it has 64 bits
abbrev pub number : List ℕ → Option Val
number digits = option_and_then int64_in (number_written digits)

-- a number with its sign turned, where that has 64 bits
abbrev pub negated : Val → Option Val
negated (val.Int z) = int64_in (neg_ℤ z)
negated _ = None

-- a number with its sign turned, if there is one
abbrev pub negated_if_some : Option Val → Option Val
negated_if_some None = None
negated_if_some (Some v) = negated v

-- the value of digits behind an operator
abbrev pub signed : UnaryOperator → Option (List ℕ) → Option Val
signed operator.Negate (Some digits) = negated_if_some (number digits)
signed _ _ = None

-- the value of a literal round which no parentheses stand
unfoldable pub bare_literal : e.Expr → Option Val
bare_literal (e.Int _ digits) = number digits
bare_literal (e.Str _ text) = Some (made.Str text)
bare_literal (e.Bool _ truth) = Some (made.Bool truth)
bare_literal (e.Unary' _ found _ (more_of-Expr operand end_of-Expr)) = signed found (digits_of operand)
bare_literal _ = None

-- the value of a literal
abbrev pub literal : e.Expr → Option Val
literal x = bare_literal (bare x)
