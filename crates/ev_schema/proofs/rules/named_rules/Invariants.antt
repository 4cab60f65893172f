use Rattle.std.proofs.Common.{◌≡◌, ◌++◌, drop, zero}
use Rattle.ev_schema.specs.Policies.{named_rules}
use Rattle.ev_schema.proofs.rules.named_rules.Given as goal

abbrev pub invariant-loop-i : goal.invariant-loop-i
invariant-loop-i l = l.rules ++ named_rules l.types l.ty l.i (drop l.i l.policies) ≡ named_rules l.types l.ty zero l.policies
