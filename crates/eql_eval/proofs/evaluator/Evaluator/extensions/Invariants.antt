use Rattle.std.proofs.Common.{◌≡◌, drop}
use Rattle.ev_value.specs.Item.{bind}
use Rattle.eql_sem.specs.Meaning.{bases, base_among}
use Rattle.eql_sem.specs.Scopes.{extensions}
use Rattle.eql_eval.proofs.evaluator.Evaluator.extensions.Given as goal

abbrev pub invariant-loop-prefix : goal.invariant-loop-prefix
invariant-loop-prefix g l = let w = g.W.World.means l.self.world.now in bind l.rows (extensions w (base_among (bases w l.body)) (drop l.prefix-index l.prefixes) l.inner) ≡ extensions w (base_among (bases w l.body)) l.prefixes l.names l.bounds
