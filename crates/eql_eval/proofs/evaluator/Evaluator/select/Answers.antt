use Rattle.std.proofs.Common.{map, sym, ap, ◌∙◌}
use Rattle.std.proofs.lemmas.Result.{IfOk-weaker}
use Rattle.ev_value.specs.Item.{bind}
use Rattle.core_ir.specs.declared.tree.Select.{out-Select}
use Rattle.eql_sem.specs.Bindings.{within}
use Rattle.eql_sem.specs.Meaning.{bases, base_among, order_of}
use Rattle.eql_sem.specs.Parts.{clause_values, row_made, rows_under}
use Rattle.eql_sem.specs.Scopes.{extensions}
use Rattle.eql_sem.specs.Selects.{finished, plain_rows}
use Rattle.std.proofs.Common.{true}
use Rattle.eql_eval.proofs.Clauses.{selected_cut, selected_plain}
use Rattle.eql_eval.proofs.evaluator.Evaluator.select.Goals as goal

pub returns-then-is_cut : goal.returns-then-is_cut
returns-then-is_cut g c =
    let w = g.W.World.means c.args.self.now.world.now in
    let s = c.args.select.now in
    let r = out-Select s in
    let ns = c.args.names.now in
    let b = c.args.bounds.now in
    IfOk-weaker _ _ _
    (λ xs made. selected_cut w s ns b c.in_ok-prefixes.prefixes c.in_ok-inner.inner c.in_ok-extensions.extensions c.in_ok-rows.rows
    c.in_ok-prefixes.ensures
    (c.in_ok-inner.ensures ∙ ap (λ f. within f ns) c.as_slice-2.ensures)
    (c.in_ok-extensions.ensures ∙ (λ i. extensions w (base_among (bases w (c.get.ensures i))) (c.as_slice.ensures i) ns b))
    (c.in_ok-rows.ensures ∙ (λ i. bind (c.as_slice-4.ensures i) (rows_under w s (c.as_slice-3.ensures i))))
    xs (sym c.is_cut.ensures ∙ c.if-is_cut.true)
    (made ∙ (λ i. finished true (clause_values w r.offset ns b) (clause_values w r.limit ns b) (map order_of r.keys) (c.as_slice-then-is_cut-2.ensures i) (row_made w s (c.as_slice-then-is_cut.ensures i)))))
    c.cut.ensures

pub returns : goal.returns
returns g c =
    let w = g.W.World.means c.args.self.now.world.now in
    let s = c.args.select.now in
    let ns = c.args.names.now in
    let b = c.args.bounds.now in
    IfOk-weaker _ _ _
    (λ xs made. selected_plain w s ns b c.in_ok-prefixes.prefixes c.in_ok-inner.inner c.in_ok-extensions.extensions c.in_ok-rows.rows
    c.in_ok-prefixes.ensures
    (c.in_ok-inner.ensures ∙ ap (λ f. within f ns) c.as_slice-2.ensures)
    (c.in_ok-extensions.ensures ∙ (λ i. extensions w (base_among (bases w (c.get.ensures i))) (c.as_slice.ensures i) ns b))
    (c.in_ok-rows.ensures ∙ (λ i. bind (c.as_slice-4.ensures i) (rows_under w s (c.as_slice-3.ensures i))))
    xs (sym c.is_cut.ensures ∙ c.if-is_cut.false)
    (made ∙ (λ i. bind ((c.as_slice-7.ensures ∙ c.in_ok-rows-2.ensures ∙ ap plain_rows c.as_slice-5.ensures) i) (row_made w s (c.as_slice-6.ensures i)))))
    c.made_rows.ensures
