use Rattle.std.proofs.Common.{◌≡◌, ◌++◌, drop}
use Rattle.eql_steps.specs.Index.{target_places}
use Rattle.eql_steps.proofs.places.add_target_places.Given as goal

abbrev pub invariant-loop-target : goal.invariant-loop-target
invariant-loop-target l = l.out.items ++ target_places l.objects (drop l.target-index l.targets) ≡ l.fn.out.items ++ target_places l.objects l.targets
