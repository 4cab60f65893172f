use Rattle.std.proofs.Common.{◌≡◌, length}
use Rattle.ev_list.specs.Aggregate.{least, lesser, with_rest}
use Rattle.ev_list.proofs.Folds.{onto}
use Rattle.ev_list.proofs.aggregate.least.Given as goal

abbrev pub invariant-loop-value : goal.invariant-loop-value
invariant-loop-value l = onto (with_rest lesser) l.left l.best ≡ least l.fn.values

abbrev pub decreases-loop-value : goal.decreases-loop-value
decreases-loop-value l = length l.left
