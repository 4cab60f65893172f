use Rattle.std.proofs.Common.{◌≡◌, drop}
use Rattle.ev_schema.specs.Policies.{has_rules}
use Rattle.ev_schema.proofs.rules.has_rules.Given as goal

abbrev pub invariant-loop-policy : goal.invariant-loop-policy
invariant-loop-policy l = has_rules l.types (drop l.policy-index l.policies) l.ty ≡ has_rules l.types l.policies l.ty
