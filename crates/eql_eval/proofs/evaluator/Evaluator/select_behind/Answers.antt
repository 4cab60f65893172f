use Rattle.std.proofs.Common.{◌∙◌, subst}
use Rattle.std.proofs.lemmas.Result.{IfOk-weaker}
use Rattle.eql_sem.specs.Parts.{selected}
use Rattle.eql_eval.specs.Statements.{IsDefined}
use Rattle.eql_eval.specs.declared.statement.Defined.{Defined}
use Rattle.eql_eval.proofs.Aliases.{behind_names}
use Rattle.eql_eval.proofs.evaluator.Evaluator.select_behind.Goals as goal

pub returns-in-Names : goal.returns-in-Names
returns-in-Names g c =
    let w = g.W.World.means c.args.self.now.world.now in
    let s = c.args.select.now in
    IfOk-weaker _ _ _
    (λ xs given. behind_names w (selected w s) c.args.aliases.now c.in-Names.inner c.args.names.now c.in-Names.stand c.args.bounds.now xs
    (subst (λ (d : Defined). IsDefined w d c.args.aliases.now c.args.names.now c.args.bounds.now) c.in-Names.is c.in_ok-inner.ensures)
    (given ∙ (λ i. selected w s (c.as_slice.ensures i) (c.as_slice-in-Names.ensures i))))
    c.select.ensures
