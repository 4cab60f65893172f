use Rattle.std.proofs.Common.{◌≡◌, drop}
use Rattle.db_values.specs.Made.{property_in}
use Rattle.db_values.proofs.object.property_in.Given as goal

abbrev pub invariant-loop-field : goal.invariant-loop-field
invariant-loop-field l = property_in (drop l.field-index l.fields) l.name ≡ property_in l.fields l.name
