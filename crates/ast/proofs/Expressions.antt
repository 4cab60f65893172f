-- Definitions on expressions, at the code's constructors.
use Rattle.std.proofs.Common.{◌≡◌, refl}
use denote.Hole.Carrier as carrier
use Rattle.ast.specs.declared.name.Span.{Span}
use Rattle.ast.specs.declared.expression.Expr as e
use Rattle.ast.specs.declared.expression.Expr.{Expr}
use Rattle.ast.specs.declared.expression.Expr.TheBlock as block
use Rattle.ast.specs.Expression.{bare}

pub bare_group : (s : Span) (x : Expr) → bare (e.Group s x) ≡ bare x
unfolding block.hidden-the_row-Expr-2 carrier.hidden
bare_group s x = refl
