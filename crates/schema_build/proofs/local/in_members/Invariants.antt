use Rattle.std.proofs.Common.{◌≡◌, drop}
use Rattle.schema_build.specs.Least.{sooner, least_of}
use Rattle.schema_build.specs.Local.{in_member}
use Rattle.schema_build.proofs.local.in_members.Given as goal

abbrev pub invariant-loop-member : goal.invariant-loop-member
invariant-loop-member l = sooner l.found (least_of (in_member l.types l.rule) (drop l.member-index l.members)) ≡ least_of (in_member l.types l.rule) l.members
