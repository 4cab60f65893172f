use Rattle.std.proofs.Common.{◌≡◌, ◌++◌, drop}
use Rattle.ev_value.specs.Item.{bind}
use Rattle.eql_sem.specs.Meaning.{finish, made}
use Rattle.eql_eval.proofs.evaluator.Evaluator.made_each.Given as goal

abbrev pub invariant-loop-item : goal.invariant-loop-item
invariant-loop-item g l = let w = g.W.World.means l.self.world.now in l.all ++ bind (drop l.item-index l.found) (made w (finish w l.body) l.names l.bounds) ≡ bind l.found (made w (finish w l.body) l.names l.bounds)
