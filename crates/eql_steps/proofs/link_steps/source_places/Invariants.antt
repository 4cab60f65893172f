use Rattle.std.proofs.Common.{◌≡◌, ◌++◌, drop}
use Rattle.eql_steps.specs.Index.{source_places_of}
use Rattle.eql_steps.proofs.link_steps.source_places.Given as goal

abbrev pub invariant-loop-target : goal.invariant-loop-target
invariant-loop-target l = l.found.items ++ source_places_of l.objects l.link (drop l.target-index l.targets) ≡ source_places_of l.objects l.link l.targets
