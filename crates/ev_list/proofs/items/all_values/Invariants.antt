use Rattle.std.proofs.Common.{◌≡◌, ◌++◌, reverse, length}
use Rattle.ev_value.specs.Item.{all_of}
use Rattle.ev_list.proofs.items.all_values.Given as goal

abbrev pub invariant-loop-value : goal.invariant-loop-value
invariant-loop-value g l = all_of l.left ++ reverse l.taken.items ≡ all_of l.fn.values

abbrev pub decreases-loop-value : goal.decreases-loop-value
decreases-loop-value g l = length l.left
