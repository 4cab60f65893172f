use Rattle.std.proofs.Common.{ap, ◌∙◌, arith}
use Rattle.ev_value.specs.Item.{bind}
use Rattle.sql_table.specs.Meaning.{turns_of_item}
use Rattle.sql_exec.specs.Engine.{world_of}
use Rattle.sql_exec.proofs.Turns.{turns_turn, turns_end}
use Rattle.sql_exec.proofs.engine.Engine.+run.Goals as goal

pub turns-loop-item-preserved : goal.turns-loop-item-preserved
turns-loop-item-preserved t c =
    turns_turn (world_of c.args.self.now) _ c.args.items.now c.loop-item.item-index c.item-item.result c.loop-item.turns c.in_ok-turns-2.turns c.loop-item.invariant c.loop-item-test.true c.item-item.is
    (c.in_ok-turns-2.ensures ∙ ap (λ l. bind l (turns_of_item (world_of c.args.self.now) c.item-item.result)) c.as_slice.ensures)

pub turns-returns : goal.turns-returns
turns-returns t c = turns_end (world_of c.args.self.now) _ c.args.items.now c.loop-item.item-index c.loop-item.turns c.loop-item.invariant (omega arith)
