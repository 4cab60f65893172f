use Rattle.std.proofs.Common.{◌≡◌, drop}
use Rattle.sql_encode.specs.Rows.{property_cell}
use Rattle.sql_encode.proofs.cells.property_cell.Given as goal

abbrev pub invariant-loop-property : goal.invariant-loop-property
invariant-loop-property l = property_cell (drop l.property-index l.properties) l.name ≡ property_cell l.properties l.name
