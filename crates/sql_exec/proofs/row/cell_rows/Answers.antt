use Rattle.std.proofs.Common.{◌++◌, ◌∷◌, [], ap, ◌∙◌}
use Rattle.ev_value.specs.declared.item.Item.TheVariants as item
use Rattle.sql_exec.specs.Engine.{cell_row}
use Rattle.sql_exec.proofs.Lists.{mapped_turn}
use Rattle.sql_exec.proofs.row.cell_rows.Goals as goal

pub loop-cell-preserved : goal.loop-cell-preserved
loop-cell-preserved c =
    mapped_turn cell_row _ c.loop-cell.left c.pop.new.self c.in-Some.cell c.loop-cell.taken.items c.push.new.self.items c.loop-cell.invariant c.in-Some.ensures (c.in_ok-push.ensures.items ∙ ap (λ x. c.loop-cell.taken.items ++ item.Value x ∷ []) c.in_ok-row.ensures)
