use Rattle.std.proofs.Common.{◌≡◌, ◌++◌, drop}
use Rattle.eql_sem.specs.Parts.{made_under}
use Rattle.eql_eval.proofs.evaluator.Evaluator.items_under.Given as goal

abbrev pub invariant-loop-row : goal.invariant-loop-row
invariant-loop-row g l = let w = g.W.World.means l.self.world.now in l.all ++ made_under w l.body l.names (drop l.row-index l.rows) ≡ made_under w l.body l.names l.rows
