use Rattle.std.proofs.Common.{◌++◌, ◌∷◌, [], ap, ◌∙◌}
use Rattle.sql_exec.specs.Engine.{keyless_item}
use Rattle.sql_exec.proofs.Lists.{mapped_turn}
use Rattle.sql_exec.proofs.arrange.plain.Goals as goal

pub loop-item-preserved : goal.loop-item-preserved
loop-item-preserved c =
    mapped_turn keyless_item _ c.loop-item.left c.pop.new.self c.in-Some.item c.loop-item.taken.items c.push.new.self.items c.loop-item.invariant c.in-Some.ensures (c.in_ok-push.ensures.items ∙ ap (λ x. c.loop-item.taken.items ++ x ∷ []) c.without_keys.ensures)
