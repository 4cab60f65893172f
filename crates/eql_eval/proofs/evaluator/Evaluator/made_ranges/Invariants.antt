use Rattle.std.proofs.Common.{◌≡◌, ◌++◌, drop, map}
use Rattle.ev_value.specs.Item.{bind}
use Rattle.core_ir.specs.declared.tree.Select.{out-Select}
use Rattle.eql_sem.specs.Meaning.{order_of}
use Rattle.eql_sem.specs.Selects.{cut_rows}
use Rattle.eql_sem.specs.Parts.{row_made}
use Rattle.eql_eval.proofs.evaluator.Evaluator.made_ranges.Given as goal

abbrev pub invariant-loop-item : goal.invariant-loop-item
invariant-loop-item g l = let w = g.W.World.means l.self.world.now in l.all ++ bind (drop l.item-index l.ranges) (λ r. bind (cut_rows (map order_of (out-Select l.select).keys) r.offset r.limit l.rows) (row_made w l.select l.names)) ≡ bind l.ranges (λ r. bind (cut_rows (map order_of (out-Select l.select).keys) r.offset r.limit l.rows) (row_made w l.select l.names))
