use Rattle.std.proofs.Common.{◌≡◌, drop}
use Rattle.ev_schema.specs.Steps.{type_among}
use Rattle.ev_schema.proofs.steps.type_among.Given as goal

abbrev pub invariant-loop-property : goal.invariant-loop-property
invariant-loop-property l = type_among (drop l.property-index l.properties) l.name ≡ type_among l.properties l.name
