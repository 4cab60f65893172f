use Rattle.std.proofs.Common.{◌≡◌, ◌++◌, drop}
use Rattle.db_values.specs.Links.{ids_of}
use Rattle.db_values.proofs.links.ids_of.Given as goal

abbrev pub invariant-loop-element : goal.invariant-loop-element
invariant-loop-element l = l.ids ++ ids_of (drop l.element-index l.elements) ≡ ids_of l.elements
