use Rattle.std.proofs.Common.{◌≡◌, ◌++◌, drop}
use Rattle.db_values.specs.Made.{properties_of}
use Rattle.db_values.proofs.object.properties_of.Given as goal

abbrev pub invariant-loop-property : goal.invariant-loop-property
invariant-loop-property l = l.values ++ properties_of (drop l.property-index l.properties) l.fields ≡ properties_of l.properties l.fields
