use Rattle.std.proofs.Common.{sym, ◌∙◌}
use Rattle.sql_table.proofs.Cells.{value_turn, null_turn}
use Rattle.sql_table.proofs.operators.present.Goals as goal

pub loop-cell-preserved-in-Continue-1 : goal.loop-cell-preserved-in-Continue-1
loop-cell-preserved-in-Continue-1 c =
    value_turn _ c.loop-cell.left c.pop.new.self c.in-Some.cell c.in-Some-value_of.value c.loop-cell.taken.items c.push.new.self.items c.loop-cell.invariant c.in-Some.ensures (sym c.value_of.ensures ∙ c.in-Some-value_of.is) c.in_ok-push.ensures.items

pub loop-cell-preserved : goal.loop-cell-preserved
loop-cell-preserved c =
    null_turn _ c.loop-cell.left c.pop.new.self c.in-Some.cell c.loop-cell.taken.items c.loop-cell.invariant c.in-Some.ensures (sym c.value_of.ensures ∙ c.in_default-value_of.is)
