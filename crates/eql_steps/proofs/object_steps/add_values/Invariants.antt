use Rattle.std.proofs.Common.{◌≡◌, ◌++◌, drop}
use Rattle.ev_value.specs.Item.{all_of}
use Rattle.eql_steps.proofs.object_steps.add_values.Given as goal

abbrev pub invariant-loop-value : goal.invariant-loop-value
invariant-loop-value l = l.out ++ all_of (drop l.value-index l.values) ≡ l.fn.out ++ all_of l.values
