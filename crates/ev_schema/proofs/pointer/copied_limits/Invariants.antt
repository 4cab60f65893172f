-- The copies so far are the constraints so far.
use Rattle.std.proofs.Common.{◌≡◌, take}
use Rattle.ev_schema.proofs.pointer.copied_limits.Given as goal

abbrev pub invariant-loop-limit : goal.invariant-loop-limit
invariant-loop-limit l = l.copies ≡ take l.limit-index l.limits
