use Rattle.std.proofs.Common.{Some, sym, ap, ◌∙◌}
use Rattle.ev_list.specs.Aggregate.{with_rest, lesser}
use Rattle.ev_list.proofs.Folds.{onto_turn, least_onto}
use Rattle.ev_list.proofs.aggregate.least.Goals as goal

pub loop-value-init : goal.loop-value-init
loop-value-init c = least_onto c.args.values

pub loop-value-preserved-in-None : goal.loop-value-preserved-in-None
loop-value-preserved-in-None c =
    onto_turn (with_rest lesser) _ _ c.loop-value.left c.pop.new.self c.in-Some.value c.loop-value.best c.loop-value.invariant c.in-Some.ensures (sym (ap (with_rest lesser c.in-Some.value) c.in-None.is))

pub loop-value-preserved : goal.loop-value-preserved
loop-value-preserved c =
    onto_turn (with_rest lesser) _ _ c.loop-value.left c.pop.new.self c.in-Some.value c.loop-value.best c.loop-value.invariant c.in-Some.ensures (ap Some c.lesser.ensures ∙ sym (ap (with_rest lesser c.in-Some.value) c.in-Some-best.is))
