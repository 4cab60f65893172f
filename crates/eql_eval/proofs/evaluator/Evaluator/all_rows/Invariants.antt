use Rattle.std.proofs.Common.{◌≡◌, ◌++◌, drop}
use Rattle.ev_value.specs.Item.{bind}
use Rattle.eql_sem.specs.Parts.{rows_under}
use Rattle.eql_eval.proofs.evaluator.Evaluator.all_rows.Given as goal

abbrev pub invariant-loop-extension : goal.invariant-loop-extension
invariant-loop-extension g l = let w = g.W.World.means l.self.world.now in l.all ++ bind (drop l.extension-index l.extensions) (rows_under w l.select l.names) ≡ bind l.extensions (rows_under w l.select l.names)
