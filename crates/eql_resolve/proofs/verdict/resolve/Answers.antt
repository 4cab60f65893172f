use Rattle.std.proofs.Common.{◌≡◌, ◌∙◌, rules, ap, sym, subst, Err, None}
use Rattle.core_ir.specs.declared.tree.Scope.{Scope}
use Rattle.core_ir.specs.declared.phase.Core.{Core}
use Rattle.plan.specs.Plan.{Told, Given}
use Rattle.eql_naming.specs.declared.refusal.NameRefusal.{NameRefusal}
use Rattle.eql_naming.specs.Paths.{scope_at}
use Rattle.eql_resolve.specs.Verdict.{Promises, query}
use Rattle.eql_resolve.proofs.Promised.{promised_of_part, promised_refusal}
use Rattle.eql_resolve.proofs.verdict.resolve.Goals as goal

pub returns-in_err-body : goal.returns-in_err-body
returns-in_err-body c =
    let e : c.from_residual.result ≡ Err c.in_err-body.field-0.0 = search rules in
    subst (λ r. Promises (query c.args.index.now c.args.q.now) r) (sym e) (promised_refusal _ _ c.in_err-body.field-0.0 c.statement.new.fresh c.in_err-body.ensures)

core_at : Scope → Told NameRefusal Core
core_at s = Given (record { subject = None; root = s })

pub returns : goal.returns
unfolding core_at
returns c =
    let e = c.in_ok-root.ensures ∙ ap (λ n. scope_at n c.in_ok-body.body) c.start_of_statement.ensures in
    promised_of_part _ _ (c.in_ok-body.body, c.statement.new.fresh) _ c.in_ok-body.ensures (ap core_at (sym e))
