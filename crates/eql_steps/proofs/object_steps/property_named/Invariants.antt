use Rattle.std.proofs.Common.{◌≡◌, [], drop}
use Rattle.eql_steps.specs.Steps.{property_named}
use Rattle.eql_steps.proofs.object_steps.property_named.Given as goal

abbrev pub invariant-loop-property : goal.invariant-loop-property
invariant-loop-property l = (l.out ≡ []) × (property_named (drop l.property-index l.properties) l.name ≡ property_named l.properties l.name)
