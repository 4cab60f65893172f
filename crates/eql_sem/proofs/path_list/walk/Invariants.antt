use Rattle.std.proofs.Common.{◌≡◌, drop}
use Rattle.eql_sem.specs.Scopes.{walk}
use Rattle.eql_sem.proofs.path_list.walk.Given as goal

abbrev pub invariant-loop-step : goal.invariant-loop-step
invariant-loop-step g l = walk (g.W.World.means l.world) (drop l.step-index l.steps) l.items ≡ walk (g.W.World.means l.world) l.steps l.fn.from
