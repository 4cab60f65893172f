use Rattle.std.proofs.Common.{◌≡◌, take}
use Rattle.db_check.specs.Extent.{extents}
use Rattle.db_check.proofs.extent.extents.Given as goal

abbrev pub invariant-loop-place : goal.invariant-loop-place
invariant-loop-place l = l.all.items ≡ extents l.types (take l.place l.objects)
