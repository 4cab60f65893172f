use Rattle.std.proofs.Common.{◌∙◌, ◌++◌, ◌∷◌, [], take, ap, sym}
use Rattle.std.specs.HashSet as set
use Rattle.std.proofs.lemmas.List.{take_more}
use Rattle.core_ir.specs.declared.path.Path.{Path}
use Rattle.core_ir.specs.Path.{path_eq}
use Rattle.path_scope.specs.Factored.{is_bound}
use Rattle.path_scope.proofs.Listing.{one_more}
use Rattle.path_scope.proofs.around.set_of.Goals as goal

pub loop-path-preserved : goal.loop-path-preserved
loop-path-preserved c =
    let bound = c.args.bound.now in
    let i = c.loop-path.path-index in
    let x = c.path-item.result in
    λ p. one_more (λ (q : Path). q) (set.contains path_eq c.insert.new.self) (set.contains path_eq c.loop-path.paths) c.whole.result (take i bound) x p
    (c.in_ok-insert.ensures.updates.0 p) c.whole.ensures (c.loop-path.invariant p)
    ∙ ap (λ l. is_bound l p) (sym (take_more bound i x c.loop-path-test.true ∙ ap (λ y. take i bound ++ y ∷ []) (sym c.path-item.is)))
