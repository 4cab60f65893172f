use Rattle.std.proofs.Common.{◌≡◌, drop}
use Rattle.type_rules.specs.Tables.{same_as}
use Rattle.type_rules.proofs.tables.same_as.Given as goal

abbrev pub invariant-loop-ty : goal.invariant-loop-ty
invariant-loop-ty l = same_as l.scalar (drop l.ty-index l.types) ≡ same_as l.scalar l.types
