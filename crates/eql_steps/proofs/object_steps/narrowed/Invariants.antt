use Rattle.std.proofs.Common.{◌≡◌, ◌++◌, drop}
use Rattle.eql_steps.specs.Steps.{narrowed}
use Rattle.eql_steps.proofs.object_steps.narrowed.Given as goal

abbrev pub invariant-loop-item : goal.invariant-loop-item
invariant-loop-item l = l.out ++ narrowed l.schema l.objects l.ty (drop l.item-index l.from) ≡ narrowed l.schema l.objects l.ty l.from
