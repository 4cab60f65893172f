use Rattle.std.proofs.Common.{◌≡◌, take, length}
use Rattle.ev_list.proofs.cut.first.Given as goal

abbrev pub invariant-loop-left : goal.invariant-loop-left
invariant-loop-left g l = take l.count l.left ≡ take l.fn.count l.fn.items

abbrev pub decreases-loop-left : goal.decreases-loop-left
decreases-loop-left g l = length l.left
