use Rattle.std.proofs.Common.{◌≡◌, ◌++◌, drop}
use Rattle.eql_steps.specs.Steps.{properties}
use Rattle.eql_steps.proofs.object_steps.properties.Given as goal

abbrev pub invariant-loop-item : goal.invariant-loop-item
invariant-loop-item l = l.out ++ properties l.schema l.objects l.pointer (drop l.item-index l.from) ≡ properties l.schema l.objects l.pointer l.from
