use Rattle.std.proofs.Common.{◌≡◌}
use Rattle.ev_schema.specs.Policies.{governed_below}
use Rattle.ev_schema.proofs.rules.is_governed.Given as goal

abbrev pub invariant-loop-i : goal.invariant-loop-i
invariant-loop-i l = l.governed ≡ governed_below l.types l.policies l.ty l.i
