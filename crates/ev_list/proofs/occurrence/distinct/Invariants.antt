use Rattle.std.proofs.Common.{◌≡◌, ◌++◌, reverse, length}
use Rattle.ev_list.specs.Occurrence.{distinct}
use Rattle.ev_list.proofs.Occurrences.{unseen}
use Rattle.ev_list.proofs.occurrence.distinct.Given as goal

abbrev pub invariant-loop-item : goal.invariant-loop-item
invariant-loop-item g l = l.seen ++ unseen g.T.Same.same l.seen (distinct g.T.Same.same (reverse l.left.items)) ≡ distinct g.T.Same.same l.fn.items

abbrev pub decreases-loop-item : goal.decreases-loop-item
decreases-loop-item g l = length l.left.items
