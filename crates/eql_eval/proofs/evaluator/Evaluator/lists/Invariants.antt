use Rattle.std.proofs.Common.{◌≡◌, ◌++◌, drop}
use Rattle.eql_sem.specs.Parts.{lists_of}
use Rattle.eql_eval.proofs.evaluator.Evaluator.lists.Given as goal

abbrev pub invariant-loop-expr : goal.invariant-loop-expr
invariant-loop-expr g l = let w = g.W.World.means l.self.world.now in l.all ++ lists_of w (drop l.expr-index l.exprs) l.names l.bounds ≡ lists_of w l.exprs l.names l.bounds
