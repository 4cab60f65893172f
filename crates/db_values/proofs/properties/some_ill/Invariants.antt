use Rattle.std.proofs.Common.{◌≡◌, drop}
use Rattle.db_values.specs.Properties.{some_ill}
use Rattle.db_values.proofs.properties.some_ill.Given as goal

abbrev pub invariant-loop-element : goal.invariant-loop-element
invariant-loop-element l = some_ill l.ty (drop l.element-index l.elements) ≡ some_ill l.ty l.elements
