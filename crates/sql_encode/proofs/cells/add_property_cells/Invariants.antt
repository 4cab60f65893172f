use Rattle.std.proofs.Common.{◌≡◌, ◌++◌, drop}
use Rattle.std.specs.Option.{option_copied}
use Rattle.sql_encode.specs.Rows.{property_cells}
use Rattle.sql_encode.proofs.cells.add_property_cells.Given as goal

abbrev pub invariant-loop-property : goal.invariant-loop-property
invariant-loop-property l = l.cells ++ property_cells (option_copied l.target) (drop l.property-index l.properties) ≡ l.fn.cells ++ property_cells (option_copied l.target) l.properties
