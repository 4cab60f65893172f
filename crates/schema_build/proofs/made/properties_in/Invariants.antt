use Rattle.std.proofs.Common.{◌≡◌, ◌++◌, drop}
use Rattle.schema_build.specs.Made.{properties_in}
use Rattle.schema_build.proofs.made.properties_in.Given as goal

abbrev pub invariant-loop-item : goal.invariant-loop-item
invariant-loop-item l = l.properties ++ properties_in l.types (drop l.item-index l.items) ≡ properties_in l.types l.items
