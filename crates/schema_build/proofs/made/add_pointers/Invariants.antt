use Rattle.std.proofs.Common.{◌≡◌, ◌++◌, drop}
use Rattle.schema_build.specs.Made.{pointers_in}
use Rattle.schema_build.proofs.made.add_pointers.Given as goal

abbrev pub invariant-loop-member : goal.invariant-loop-member
invariant-loop-member l = l.pointers ++ pointers_in l.types l.origin (drop l.member-index l.members) ≡ l.fn.pointers ++ pointers_in l.types l.origin l.members
