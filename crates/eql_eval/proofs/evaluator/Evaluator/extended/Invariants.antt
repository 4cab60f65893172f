use Rattle.std.proofs.Common.{◌≡◌, ◌++◌, drop}
use Rattle.eql_sem.specs.Meaning.{bases, base_among}
use Rattle.eql_sem.specs.Parts.{extended_by}
use Rattle.eql_eval.proofs.evaluator.Evaluator.extended.Given as goal

abbrev pub invariant-loop-row : goal.invariant-loop-row
invariant-loop-row g l = let w = g.W.World.means l.self.world.now in l.all ++ extended_by w (base_among (bases w l.body)) l.prefix l.names (drop l.row-index l.rows) ≡ extended_by w (base_among (bases w l.body)) l.prefix l.names l.rows
