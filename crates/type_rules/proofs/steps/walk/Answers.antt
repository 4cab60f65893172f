use Rattle.std.proofs.Common.{rules, ◌≡◌, ◌+◌, ◌-◌, length, sym, ◌∙◌, arith}
use Rattle.std.proofs.lemmas.Grind.{common_steps}
use Rattle.plan.specs.Plan.{tells}
use Rattle.type_rules.specs.Steps.{walk_on}
use Rattle.type_rules.proofs.Walking.{comes, goes}
use Rattle.type_rules.proofs.steps.walk.Goals as goal

pub returns-in_err-done : goal.returns-in_err-done
returns-in_err-done c =
    let behind : c.loop-step.behind - 1 + (c.loop-step.step-index + 1) ≡ length c.as_slice-steps.result.now = omega (arith, c.loop-step.invariant.left, c.loop-step-test.true) in
    let e = comes c.args.index.now c.args.start c.as_slice-places.result.now c.as_slice-steps.result.now c.loop-step.step-index c.loop-step.done c.step-item.result (c.loop-step.behind - 1) _ c.loop-step-test.true c.step-item.is behind c.loop-step.invariant.tells in
    first_of (search rules, grind (arith, common_steps))

pub loop-step-preserved : goal.loop-step-preserved
loop-step-preserved c =
    let behind : c.loop-step.behind - 1 + (c.loop-step.step-index + 1) ≡ length c.as_slice-steps.result.now = omega (arith, c.loop-step.invariant.left, c.loop-step-test.true) in
    record {
      left = behind;
      tells = goes c.args.index.now c.args.start c.as_slice-places.result.now c.as_slice-steps.result.now c.loop-step.step-index c.loop-step.done c.step-item.result c.in_ok-done.done (c.loop-step.behind - 1) _ c.loop-step-test.true c.step-item.is behind c.loop-step.invariant.tells
          ((λ i. tells (walk_on c.args.index.now c.loop-step.done c.step-item.result (sym c.place_of.ensures i) tt)) ∙ c.in_ok-done.ensures);
    }
