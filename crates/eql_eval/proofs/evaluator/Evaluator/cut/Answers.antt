use Rattle.std.proofs.Common.{map, ◌∙◌}
use Rattle.std.proofs.lemmas.Result.{IfOk-weaker}
use Rattle.core_ir.specs.declared.tree.Select.{out-Select}
use Rattle.eql_sem.specs.Meaning.{order_of}
use Rattle.eql_sem.specs.Parts.{clause_values, row_made}
use Rattle.eql_sem.specs.Selects.{ranges}
use Rattle.eql_eval.proofs.Clauses.{cut_is}
use Rattle.eql_eval.proofs.evaluator.Evaluator.cut.Goals as goal

pub returns : goal.returns
returns g c =
    let w = g.W.World.means c.args.self.now.world.now in
    let s = out-Select c.args.select.now in
    IfOk-weaker _ _ _
    (λ xs made. cut_is (clause_values w s.offset c.args.names.now c.args.bounds.now) (clause_values w s.limit c.args.names.now c.args.bounds.now) (map order_of s.keys) c.args.rows.now (row_made w c.args.select.now c.args.inner.now) c.as_slice-3.result.now xs
    (c.as_slice-3.ensures ∙ c.in_ok-ranges.ensures ∙ (λ i. ranges ((c.as_slice.ensures ∙ c.in_ok-offset.ensures) i) ((c.as_slice-2.ensures ∙ c.in_ok-limit.ensures) i)))
    made)
    c.made_ranges.ensures
