use Rattle.std.proofs.Common.{◌∷◌, ap, ◌∙◌}
use Rattle.std.proofs.lemmas.Result.{IfOk-weaker}
use Rattle.ev_value.specs.Item.{only_faults}
use Rattle.core_ir.specs.declared.tree.Select.{out-Select}
use Rattle.eql_sem.specs.Parts.{condition_values}
use Rattle.eql_sem.specs.declared.binding.Bound.TheVariants as bound
use Rattle.eql_eval.proofs.Clauses.{row_faults}
use Rattle.eql_eval.proofs.evaluator.Evaluator.row.Goals as goal

pub returns : goal.returns
returns g c =
    let w = g.W.World.means c.args.self.now.world.now in
    let s = out-Select c.args.select.now in
    IfOk-weaker _ _ _
    (λ xs told. row_faults w c.args.select.now c.args.names.now c.args.bounds.now c.args.item.now c.in_ok-inner.inner c.in_ok-stand.stand c.in-Faults.faults c.in_ok-truths.field-0 c.in_ok-condition.condition c.as_slice-3.result.now xs
    (c.in_ok-inner.ensures ∙ ap (λ n. n ∷ c.args.names.now) c.root_name.ensures)
    (c.in_ok-stand.ensures ∙ ap (λ v. bound.One v ∷ c.args.bounds.now) c.in_ok-copied.ensures)
    (c.in_ok-condition.ensures ∙ (λ i. condition_values w s.filter (c.as_slice.ensures i) (c.as_slice-2.ensures i)))
    c.as_slice-3.ensures c.in_ok-truths.ensures c.in-Faults.is
    (told ∙ ap only_faults c.as_slice-in-Faults.ensures))
    c.fault_items.ensures
