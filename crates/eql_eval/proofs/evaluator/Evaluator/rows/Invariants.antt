use Rattle.std.proofs.Common.{◌≡◌, ◌++◌, drop}
use Rattle.ev_value.specs.Item.{bind}
use Rattle.eql_sem.specs.Parts.{rows_of_item}
use Rattle.eql_eval.proofs.evaluator.Evaluator.rows.Given as goal

abbrev pub invariant-loop-item : goal.invariant-loop-item
invariant-loop-item g l = let w = g.W.World.means l.self.world.now in l.all ++ bind (drop l.item-index l.item-items) (rows_of_item w l.select l.names l.bounds) ≡ bind l.item-items (rows_of_item w l.select l.names l.bounds)
