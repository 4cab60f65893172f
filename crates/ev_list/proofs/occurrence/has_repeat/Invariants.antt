use Rattle.std.proofs.Common.{◌≡◌, drop}
use Rattle.ev_list.specs.Occurrence.{has_repeat}
use Rattle.ev_list.proofs.occurrence.has_repeat.Given as goal

abbrev pub invariant-loop-i : goal.invariant-loop-i
invariant-loop-i g l = has_repeat g.T.Same.same (drop l.i l.items) ≡ has_repeat g.T.Same.same l.items
