use Rattle.std.proofs.Common.{◌≡◌, ◌++◌, drop}
use Rattle.eql_sem.specs.Parts.{scopes_values}
use Rattle.eql_eval.proofs.evaluator.Evaluator.values_of_scopes.Given as goal

abbrev pub invariant-loop-scope : goal.invariant-loop-scope
invariant-loop-scope g l = let w = g.W.World.means l.self.world.now in l.all ++ scopes_values w (drop l.scope-index l.scopes) l.names l.bounds ≡ scopes_values w l.scopes l.names l.bounds
