use Rattle.std.proofs.Common.{sym, ap, ◌∙◌}
use Rattle.ast.specs.Expression.{bare}
use Rattle.ast.proofs.Expressions.{bare_group}
use Rattle.ast.proofs.expression.Expr.+bare.Goals as goal

pub returns-in-Group : goal.returns-in-Group
returns-in-Group t c =
    c.bare.ensures ∙ ap bare c.get.ensures ∙ sym (bare_group c.in-Group.field-0 c.in-Group.inner) ∙ ap bare (sym c.in-Group.is)
