use Rattle.std.proofs.Common.{◌≡◌, ◌≤◌, ◌⊎◌, ◌++◌, [], reverse, length}
use Rattle.ev_list.proofs.cut.behind.Given as goal

abbrev pub invariant-loop-left : goal.invariant-loop-left
invariant-loop-left g l = (l.left ++ reverse l.taken.items ≡ l.fn.items) × ((l.taken.items ≡ []) ⊎ (l.count ≤ length l.left))

abbrev pub decreases-loop-left : goal.decreases-loop-left
decreases-loop-left g l = length l.left
