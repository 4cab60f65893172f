use Rattle.std.proofs.Common.{◌≡◌, ◌++◌, drop}
use Rattle.eql_world.specs.View.{flag_for, flagged}
use Rattle.eql_world.proofs.cutting.flagged_objects.Given as goal

abbrev pub invariant-loop-object : goal.invariant-loop-object
invariant-loop-object l = l.kept ++ flagged (flag_for l.objects l.flags) (drop l.object-index l.objects) l.rest ≡ flagged (flag_for l.objects l.flags) l.objects l.flags
