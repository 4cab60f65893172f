use Rattle.std.proofs.Common.{◌≡◌, ◌++◌, drop}
use Rattle.ev_value.specs.Item.{all_of}
use Rattle.eql_sem.proofs.item.all_values.Given as goal

abbrev pub invariant-loop-value : goal.invariant-loop-value
invariant-loop-value g l = l.all ++ all_of (drop l.value-index l.values) ≡ all_of l.values
