use Rattle.std.proofs.Common.{◌≡◌, ◌+◌, drop, length, None, []}
use Rattle.plan.specs.Plan.{tells}
use Rattle.type_rules.specs.Steps.{walk}
use Rattle.type_rules.proofs.steps.walk.Given as goal

abbrev pub invariant-loop-step : goal.invariant-loop-step
invariant-loop-step l =
    record {
      left : l.behind + l.step-index ≡ length l.steps;
      tells : tells (walk l.index l.start l.places l.done (drop l.step-index l.steps) tt)
          ≡ tells (walk l.index l.fn.start l.fn.occurrence.places (record { steps = []; link = None; reached = l.fn.from }) l.fn.occurrence.path.steps tt);
    }
