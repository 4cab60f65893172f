use Rattle.std.proofs.Common.{◌≡◌, ◌++◌, drop}
use Rattle.eql_sem.specs.Parts.{keys_of}
use Rattle.eql_eval.proofs.evaluator.Evaluator.key_lists.Given as goal

abbrev pub invariant-loop-key : goal.invariant-loop-key
invariant-loop-key g l = let w = g.W.World.means l.self.world.now in l.all ++ keys_of w (drop l.key-index l.keys) l.names l.bounds ≡ keys_of w l.keys l.names l.bounds
