use Rattle.ev_list.proofs.ItemTurns.{all_turn}
use Rattle.ev_list.proofs.items.all_values.Goals as goal

pub loop-value-preserved : goal.loop-value-preserved
loop-value-preserved g c = all_turn _ c.loop-value.left c.pop.new.self c.in-Some.value c.loop-value.taken.items c.push.new.self.items c.loop-value.invariant c.in-Some.ensures c.in_ok-push.ensures.items
