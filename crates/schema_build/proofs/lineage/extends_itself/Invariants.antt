use Rattle.std.proofs.Common.{◌≡◌, drop}
use Rattle.std.specs.List.{list_any}
use Rattle.ev_schema.specs.Types.{same_type}
use Rattle.schema_build.specs.Lineage.{at, extends_itself}
use Rattle.schema_build.proofs.lineage.extends_itself.Given as goal

abbrev pub invariant-loop-ty : goal.invariant-loop-ty
invariant-loop-ty l = list_any (same_type (record { 0 = l.number })) (drop l.ty-index (at l.lines l.number)) ≡ extends_itself l.lines l.number
