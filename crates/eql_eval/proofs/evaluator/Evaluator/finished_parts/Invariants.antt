use Rattle.std.proofs.Common.{◌≡◌, ◌++◌, drop}
use Rattle.eql_sem.specs.Parts.{finished_all}
use Rattle.eql_eval.proofs.evaluator.Evaluator.finished_parts.Given as goal

abbrev pub invariant-loop-part : goal.invariant-loop-part
invariant-loop-part g l = let w = g.W.World.means l.self.world.now in l.all ++ finished_all w (drop l.part-index l.parts) l.names l.bounds l.left ≡ finished_all w l.parts l.names l.bounds l.fn.forms
