-- The copies so far are the properties so far.
use Rattle.std.proofs.Common.{◌≡◌, take}
use Rattle.ev_schema.proofs.pointer.copied_properties.Given as goal

abbrev pub invariant-loop-property : goal.invariant-loop-property
invariant-loop-property l = l.copies ≡ take l.property-index l.properties
