use Rattle.std.proofs.Common.{◌≡◌, drop}
use Rattle.schema_build.specs.Least.{sooner, least_of}
use Rattle.schema_build.specs.Local.{at_item}
use Rattle.schema_build.proofs.local.in_items.Given as goal

abbrev pub invariant-loop-item : goal.invariant-loop-item
invariant-loop-item l = sooner l.found (least_of (at_item l.types l.rule l.meant) (drop l.item-index l.items)) ≡ least_of (at_item l.types l.rule l.meant) l.items
