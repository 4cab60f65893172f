-- Where expressions stand in the text, and the expressions made of others with their places.
use Rattle.ast.specs.declared.name.Span.{Span}
use Rattle.ast.specs.declared.operator.BinaryOperator.{BinaryOperator}
use Rattle.ast.specs.declared.shape.Shape.{Shape}
use Rattle.ast.specs.declared.expression.Postfix.{Postfix}
use Rattle.ast.specs.declared.expression.Expr as e
use Rattle.ast.specs.declared.expression.Expr.{Expr, end_of-Expr, more_of-Expr}

-- the bytes from where one part begins to where another ends
abbrev pub joined : Span → Span → Span
joined from to = record { start = from.start; end = to.end }

-- the bytes of an expression, parentheses round it included
abbrev pub span_of : Expr → Span
span_of (e.Int s _) = s
span_of (e.Str s _) = s
span_of (e.Bool s _) = s
span_of (e.PartialStep s _) = s
span_of (e.PartialBackLink s _) = s
span_of (e.PartialProperty s _) = s
span_of (e.Global s _) = s
span_of (e.Name s _) = s
span_of (e.Call' s _ _ _) = s
span_of (e.Statement' s _ _) = s
span_of (e.Group' s _ _) = s
span_of (e.Tuple' s _ _) = s
span_of (e.Set' s _ _) = s
span_of (e.Postfix' s _ _ _) = s
span_of (e.Shaped' s _ _ _ _ _) = s
span_of (e.Cast' s _ _ _) = s
span_of (e.Parameter s _) = s
span_of (e.Unary' s _ _ _) = s
span_of (e.Binary' s _ _ _ _ _ _) = s
span_of (e.IfElse' s _ _ _ _ _ _) = s
span_of (e.IfThen' s _ _ _ _ _ _) = s

-- an expression without the parentheses round it
abbrev pub bare : Expr → Expr
bare (e.Group' _ _ (more_of-Expr inner end_of-Expr)) = bare inner
bare x = x

-- an operator between two operands: it begins where the left one does and ends where the right one does
abbrev pub binary : BinaryOperator → Span → Expr → Expr → Expr
binary operator place left right =
    e.Binary (joined (span_of left) (span_of right)) (record { operator = operator; span = place; left = left; right = right })

-- a base with a postfix: it begins where the base does
abbrev pub postfix : Expr → Postfix → Expr
postfix base step = e.Postfix (joined (span_of base) step.span) base step

-- a base with a shape: it begins where the base does
abbrev pub shaped : Expr → Shape → Expr
shaped base shape = e.Shaped (joined (span_of base) shape.span) (record { base = base; shape = shape })

-- `value if condition else other`
abbrev pub if_else : Expr → Expr → Expr → Expr
if_else value condition other =
    e.IfElse (joined (span_of value) (span_of other)) (record { condition = condition; value = value; other = other })
