use Rattle.std.proofs.Common.{◌≡◌, ◌++◌, drop}
use Rattle.ev_value.specs.Item.{bind, all_of}
use Rattle.eql_sem.proofs.path_list.add_properties.Given as goal

abbrev pub invariant-loop-target : goal.invariant-loop-target
invariant-loop-target g l =
    l.all ++ bind (drop l.target-index l.targets) (λ y. all_of ((g.W.World.means l.world).link_property l.link l.name l.source y))
    ≡ l.initial.all ++ bind l.targets (λ y. all_of ((g.W.World.means l.world).link_property l.link l.name l.source y))
