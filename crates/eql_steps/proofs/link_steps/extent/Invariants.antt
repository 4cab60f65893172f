use Rattle.std.proofs.Common.{◌≡◌, ◌++◌, drop}
use Rattle.ev_value.specs.Item.{all_of}
use Rattle.eql_steps.specs.Steps.{extent}
use Rattle.eql_steps.proofs.link_steps.extent.Given as goal

abbrev pub invariant-loop-object : goal.invariant-loop-object
invariant-loop-object l = l.out ++ all_of (extent l.schema (drop l.object-index l.objects) l.ty) ≡ all_of (extent l.schema l.objects l.ty)
