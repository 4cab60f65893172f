use Rattle.std.proofs.Common.{◌≡◌, ◌∙◌, rules, ap, sym, subst, Err, Some, ◌∷◌, [], false}
use Rattle.core_ir.specs.declared.tree.Scope.{Scope}
use Rattle.core_ir.specs.declared.phase.Core.{Core}
use Rattle.core_ir.specs.declared.path.TypeId.{TypeId}
use Rattle.plan.specs.Plan.{Told, Given, tells}
use Rattle.eql_naming.specs.declared.refusal.NameRefusal.{NameRefusal}
use Rattle.eql_naming.specs.Around as around
use Rattle.eql_naming.specs.Naming.{Answers}
use Rattle.eql_naming.specs.Paths.{scope_at}
use Rattle.eql_resolve.specs.Resolving.{resolve}
use Rattle.eql_resolve.specs.Verdict.{Promises, within}
use Rattle.eql_resolve.proofs.Promised.{promised_of_part, promised_refusal}
use Rattle.eql_resolve.proofs.verdict.resolve_in.Goals as goal

pub returns-in_err-body : goal.returns-in_err-body
returns-in_err-body c =
    let e : c.from_residual-in_err-body.result ≡ Err c.in_err-body.field-0.0 = search rules in
    let h = subst (λ u. Answers (tells (resolve c.args.index.now false c.args.x.now false (around.On u ∷ []) 1)) (Err c.in_err-body.field-0.0) c.resolve.new.fresh) c.in_ok-subject.ensures c.in_err-body.ensures in
    subst (λ r. Promises (within c.args.index.now c.args.ty c.args.x.now) r) (sym e) (promised_refusal _ _ c.in_err-body.field-0.0 c.resolve.new.fresh h)

core_at : TypeId → Scope → Told NameRefusal Core
core_at t s = Given (record { subject = Some t; root = s })

pub returns : goal.returns
unfolding core_at
returns c =
    let e = c.in_ok-root.ensures ∙ ap (λ at. scope_at at.start c.in_ok-body.body) c.span.ensures in
    let h = subst (λ u. tells (resolve c.args.index.now false c.args.x.now false (around.On u ∷ []) 1) ≡ Given (c.in_ok-body.body, c.resolve.new.fresh)) c.in_ok-subject.ensures c.in_ok-body.ensures in
    promised_of_part _ _ (c.in_ok-body.body, c.resolve.new.fresh) _ h (ap (core_at c.args.ty) (sym e))
