use Rattle.std.proofs.Common.{◌≡◌, ◌++◌, drop}
use Rattle.eql_sem.specs.Scopes.{property_list}
use Rattle.eql_sem.proofs.path_list.property_list.Given as goal

abbrev pub invariant-loop-source : goal.invariant-loop-source
invariant-loop-source g l =
    l.all ++ property_list (g.W.World.means l.world) l.link l.name (drop l.source-index l.sources) l.targets
    ≡ property_list (g.W.World.means l.world) l.link l.name l.sources l.targets
