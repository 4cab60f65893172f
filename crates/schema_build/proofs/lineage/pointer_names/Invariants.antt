use Rattle.std.proofs.Common.{◌≡◌, ◌++◌, drop}
use Rattle.schema_build.specs.Lineage.{pointer_names}
use Rattle.schema_build.proofs.lineage.pointer_names.Given as goal

abbrev pub invariant-loop-member : goal.invariant-loop-member
invariant-loop-member l = l.names ++ pointer_names (drop l.member-index l.members) ≡ pointer_names l.members
