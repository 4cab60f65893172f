use Rattle.std.proofs.Common.{◌≡◌, ◌++◌, drop}
use Rattle.db_values.specs.Made.{keyed_targets}
use Rattle.db_values.proofs.object.keyed_targets.Given as goal

abbrev pub invariant-loop-element : goal.invariant-loop-element
invariant-loop-element l = l.all ++ keyed_targets l.properties (drop l.element-index l.elements) ≡ keyed_targets l.properties l.elements
