use Rattle.std.proofs.Common.{◌≡◌, drop}
use Rattle.eql_steps.specs.Steps.{property_at}
use Rattle.eql_steps.proofs.object_steps.property_at.Given as goal

abbrev pub invariant-loop-target : goal.invariant-loop-target
invariant-loop-target l = property_at (drop l.target-index l.targets) l.object l.name ≡ property_at l.targets l.object l.name
