use Rattle.std.proofs.Common.{◌≡◌, ◌++◌, drop}
use Rattle.ev_value.specs.Item.{bind}
use Rattle.eql_sem.specs.Forms.{strip}
use Rattle.eql_sem.specs.Meaning.{items}
use Rattle.eql_eval.proofs.evaluator.Evaluator.values_under.Given as goal

abbrev pub invariant-loop-row : goal.invariant-loop-row
invariant-loop-row g l = let w = g.W.World.means l.self.world.now in l.all ++ bind (drop l.row-index l.rows) (λ b. strip (items w l.body l.names b)) ≡ bind l.rows (λ b. strip (items w l.body l.names b))
