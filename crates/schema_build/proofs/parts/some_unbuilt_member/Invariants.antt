use Rattle.std.proofs.Common.{◌≡◌, drop}
use Rattle.std.specs.List.{list_any}
use Rattle.schema_build.specs.Parts.{is_unbuilt_member}
use Rattle.schema_build.proofs.parts.some_unbuilt_member.Given as goal

abbrev pub invariant-loop-member : goal.invariant-loop-member
invariant-loop-member l = list_any is_unbuilt_member (drop l.member-index l.members) ≡ list_any is_unbuilt_member l.members
