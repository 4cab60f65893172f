use Rattle.std.proofs.Common.{◌≡◌, take}
use Rattle.eql_world.proofs.cutting.copied_properties.Given as goal

abbrev pub invariant-loop-property : goal.invariant-loop-property
invariant-loop-property l = l.copies ≡ take l.property-index l.properties
