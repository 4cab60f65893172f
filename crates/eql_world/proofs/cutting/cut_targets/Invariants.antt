use Rattle.std.proofs.Common.{◌≡◌, ◌++◌, drop}
use Rattle.eql_world.specs.View.{flag_for, cut_targets}
use Rattle.eql_world.proofs.cutting.cut_targets.Given as goal

abbrev pub invariant-loop-target : goal.invariant-loop-target
invariant-loop-target l = l.kept ++ cut_targets (flag_for l.objects l.flags) (drop l.target-index l.targets) ≡ cut_targets (flag_for l.objects l.flags) l.targets
