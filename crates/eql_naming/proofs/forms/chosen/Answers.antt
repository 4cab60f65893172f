use Rattle.std.proofs.Common.{◌≡◌, ◌∙◌, ap}
use Rattle.core_ir.specs.declared.tree.Expr.TheVariants as expr
use Rattle.core_ir.specs.declared.tree.Scope.{Scope}
use Rattle.eql_naming.specs.Paths.{scope_at}
use Rattle.eql_naming.proofs.forms.chosen.Goals as goal

pub returns : goal.returns
returns c =
    c.in_ok-choice.ensures ∙ ap (λ (v : Scope). expr.If c.args.start (record { order = c.args.order; condition = c.args.condition; value = v; other = c.in_ok-value.other })) c.in_ok-value.ensures.0 ∙ ap (λ (w : Scope). expr.If c.args.start (record { order = c.args.order; condition = c.args.condition; value = scope_at c.args.from c.args.value; other = w })) c.in_ok-value.ensures.1
