use Rattle.std.proofs.Common.{◌≡◌, ◌++◌, drop}
use Rattle.db_values.specs.Properties.{values_of}
use Rattle.db_values.proofs.properties.values_of.Given as goal

abbrev pub invariant-loop-element : goal.invariant-loop-element
invariant-loop-element l = l.values ++ values_of l.ty (drop l.element-index l.elements) ≡ values_of l.ty l.elements
