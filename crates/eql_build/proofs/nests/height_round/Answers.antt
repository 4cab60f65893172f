use Rattle.std.proofs.Common.{arith, sym, ap, ◌∙◌, ◌≡◌, take}
use Rattle.eql_build.proofs.Rounds.{high_round, high_round_is, high_round_turn, high_round_all, high_round_none}
use Rattle.eql_build.proofs.nests.height_round.Goals as goal

pub loop-left-init : goal.loop-left-init
loop-left-init c = (omega arith, high_round_all c.args.heads.now _ ∙ ap (high_round c.args.heads.now) c.body_height-height.ensures ∙ sym (high_round_is c.args.heads.now c.args.inside.now))

pub loop-left-preserved : goal.loop-left-preserved
loop-left-preserved c =
    let turned = high_round_turn c.args.heads.now c.loop-left.left c.index-heads-left.result c.loop-left.height (omega arith) c.loop-left.invariant.0 c.index-heads-left.is in
    (omega arith, grind (arith, turned))

pub returns : goal.returns
returns c =
    let none : c.loop-left.left ≡ 0 = omega arith in
    sym (high_round_none c.args.heads.now c.loop-left.height) ∙ ap (λ n. high_round (take n c.args.heads.now) c.loop-left.height) (sym none) ∙ c.loop-left.invariant.1
