use Rattle.std.proofs.Common.{drop}
use Rattle.eql_eval.proofs.Aliases.{Reached}
use Rattle.eql_eval.proofs.evaluator.Evaluator.define.Given as goal

abbrev pub invariant-loop-alias : goal.invariant-loop-alias
invariant-loop-alias g l = let w = g.W.World.means l.self.world.now in Reached w (drop l.alias-index l.aliases) l.inner l.stand l.aliases l.names l.bounds
