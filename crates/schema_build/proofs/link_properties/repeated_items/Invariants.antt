use Rattle.std.proofs.Common.{◌≡◌, drop, []}
use Rattle.schema_build.specs.Least.{sooner}
use Rattle.schema_build.specs.LinkProperties.{repeated_items}
use Rattle.schema_build.proofs.link_properties.repeated_items.Given as goal

abbrev pub invariant-loop-item : goal.invariant-loop-item
invariant-loop-item l = sooner l.found (repeated_items l.names (drop l.item-index l.items)) ≡ repeated_items [] l.items
