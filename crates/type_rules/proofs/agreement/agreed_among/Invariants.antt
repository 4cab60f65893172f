use Rattle.std.proofs.Common.{◌≡◌, drop, Some}
use Rattle.type_rules.specs.Agreement.{agreed_from, agreed_among}
use Rattle.type_rules.proofs.agreement.agreed_among.Given as goal

abbrev pub invariant-loop-ty : goal.invariant-loop-ty
invariant-loop-ty l = agreed_from l.schema.types (Some l.all) (drop l.ty-index l.more) ≡ agreed_among l.schema.types l.types
