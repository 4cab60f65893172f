use Rattle.std.proofs.Common.{◌≡◌, ◌∷◌, ◌++◌, ◌+◌, drop, sym, ap, ◌∙◌}
use Rattle.std.proofs.lemmas.List.{drop_more}
use Rattle.ev_value.specs.Item.{bind}
use Rattle.eql_sem.specs.Parts.{rows_under}
use Rattle.eql_eval.proofs.Clauses.{kept_value, kept_fault}
use Rattle.eql_eval.proofs.evaluator.Evaluator.all_rows.Goals as goal
use Rattle.eql_eval.proofs.evaluator.Evaluator.all_rows.Goals.{in-Value+in_ok-rows-in-Value+in_ok-append-in-Value, in-Fault+in_ok-push-in-Fault}

pub loop-extension-preserved : goal.loop-extension-preserved
loop-extension-preserved g c =
    let f = rows_under (g.W.World.means c.args.self.now.world.now) c.args.select.now c.args.names.now in
    let xs = c.args.extensions.now in
    let i = c.loop-extension.extension-index in
    let x = c.extension-item.result in
    let here : drop i xs ≡ x ∷ drop (i + 1) xs = drop_more xs i x c.loop-extension-test.true ∙ ap (λ y. y ∷ drop (i + 1) xs) (sym c.extension-item.is) in
    elim c.match-extension.branch [
      | in-Value+in_ok-rows-in-Value+in_ok-append-in-Value v ↦
          kept_value f xs i v.in-Value.bounds c.loop-extension.all c.match-extension.all (bind xs f) c.loop-extension.invariant
          (here ∙ ap (λ y. y ∷ drop (i + 1) xs) v.in-Value.is)
          (v.all-is ∙ v.in_ok-append-in-Value.ensures ∙ ap (λ l. c.loop-extension.all ++ l) (v.in_ok-rows-in-Value.ensures ∙ ap f v.as_slice.ensures))
      | in-Fault+in_ok-push-in-Fault v ↦
          kept_fault f xs i _ c.loop-extension.all c.match-extension.all (bind xs f) c.loop-extension.invariant
          (here ∙ ap (λ y. y ∷ drop (i + 1) xs) v.in-Fault.is)
          (v.all-is ∙ v.in_ok-push-in-Fault.ensures.ok)
    ]
