use Rattle.std.proofs.lemmas.Result.{IfOk-weaker}
use Rattle.eql_eval.proofs.Dressing.{finished_form_is}
use Rattle.eql_eval.proofs.evaluator.Evaluator.finished_form.Goals as goal

pub returns : goal.returns
returns g c =
    let w = g.W.World.means c.args.self.now.world.now in
    IfOk-weaker _ _ _
    (λ xs told. finished_form_is w c.args.part.now c.args.names.now c.args.bounds.now _ c.args.form.now c.in_ok-made.made c.as_slice.result.now xs c.in_ok-made.ensures c.as_slice.ensures c.in_ok-form.ensures told)
    c.forms_of.ensures
