use Rattle.std.proofs.Common.{◌≡◌, ◌++◌, drop}
use Rattle.eql_sem.specs.Parts.{fields_of}
use Rattle.eql_eval.proofs.evaluator.Evaluator.field_lists.Given as goal

abbrev pub invariant-loop-element : goal.invariant-loop-element
invariant-loop-element g l = let w = g.W.World.means l.self.world.now in l.all ++ fields_of w (drop l.element-index l.elements) l.names l.bounds ≡ fields_of w l.elements l.names l.bounds
