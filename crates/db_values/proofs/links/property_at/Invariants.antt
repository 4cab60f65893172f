use Rattle.std.proofs.Common.{◌≡◌, drop}
use Rattle.db_values.specs.Links.{property_at}
use Rattle.db_values.proofs.links.property_at.Given as goal

abbrev pub invariant-loop-property : goal.invariant-loop-property
invariant-loop-property l = property_at (drop l.property-index l.properties) l.key ≡ property_at l.properties l.key
