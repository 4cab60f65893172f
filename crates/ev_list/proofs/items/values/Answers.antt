use Rattle.std.proofs.Common.{◌∷◌, ◌++◌, [], ap, ◌∙◌}
use Rattle.ev_list.proofs.ItemTurns.{value_turn, fault_turn}
use Rattle.ev_list.proofs.items.values.Goals as goal

pub loop-item-preserved-in-Continue-1 : goal.loop-item-preserved-in-Continue-1
loop-item-preserved-in-Continue-1 g c =
    value_turn _ c.loop-item.left c.pop.new.self c.in-Value.value c.loop-item.taken.items c.push.new.self.items c.loop-item.invariant (c.in-Some.ensures ∙ ap (λ x. c.pop.new.self ++ x ∷ []) c.in-Value.is) c.in_ok-push.ensures.items

pub loop-item-preserved : goal.loop-item-preserved
loop-item-preserved g c =
    fault_turn _ c.loop-item.left c.pop.new.self c.in_default-item.field-0 c.loop-item.taken.items c.loop-item.invariant (c.in-Some.ensures ∙ ap (λ x. c.pop.new.self ++ x ∷ []) c.in_default-item.is)
