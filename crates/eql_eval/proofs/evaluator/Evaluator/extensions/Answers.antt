use Rattle.std.proofs.Common.{◌≡◌, ◌∷◌, ◌+◌, drop, rules, sym, ap, ◌∙◌}
use Rattle.std.proofs.lemmas.List.{drop_more}
use Rattle.std.proofs.Math.ListN.{drop_of_length-le}
use Rattle.eql_sem.specs.Meaning.{bases, base_among}
use Rattle.eql_eval.proofs.Extending.{extensions_kept, extensions_done}
use Rattle.eql_eval.proofs.evaluator.Evaluator.extensions.Goals as goal

pub loop-prefix-preserved : goal.loop-prefix-preserved
loop-prefix-preserved g c =
    let w = g.W.World.means c.args.self.now.world.now in
    let fs = c.args.prefixes.now in
    let i = c.loop-prefix.prefix-index in
    let f = c.prefix-item.result in
    let here : drop i fs ≡ f ∷ drop (i + 1) fs = drop_more fs i f c.loop-prefix-test.true ∙ ap (λ x. x ∷ drop (i + 1) fs) (sym c.prefix-item.is) in
    extensions_kept w (base_among (bases w c.args.body.now)) fs i f c.loop-prefix.inner c.in_ok-inner-2.inner c.loop-prefix.rows c.in_ok-rows-2.rows _ c.loop-prefix.invariant here
    (search (rules, c.in_ok-rows-2.ensures, c.as_slice.ensures, c.as_slice-in-loop-prefix.ensures)) (search (rules, c.in_ok-inner-2.ensures, c.in_ok-copied.ensures, c.as_slice-in-loop-prefix-2.ensures))

pub returns : goal.returns
returns g c =
    let w = g.W.World.means c.args.self.now.world.now in
    extensions_done w (base_among (bases w c.args.body.now)) c.args.prefixes.now c.loop-prefix.prefix-index c.loop-prefix.inner c.loop-prefix.rows _ c.loop-prefix.invariant (drop_of_length-le c.args.prefixes.now c.loop-prefix-test.false)
