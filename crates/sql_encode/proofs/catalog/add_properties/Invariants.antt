use Rattle.std.proofs.Common.{◌≡◌, ◌++◌, drop}
use Rattle.sql_encode.specs.Shapes.{property_columns}
use Rattle.sql_encode.proofs.catalog.add_properties.Given as goal

abbrev pub invariant-loop-property : goal.invariant-loop-property
invariant-loop-property l = l.columns ++ property_columns l.front (drop l.property-index l.properties) ≡ l.fn.columns ++ property_columns l.front l.properties
