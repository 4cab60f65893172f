use Rattle.std.proofs.Common.{◌≡◌, drop, map}
use Rattle.core_ir.specs.declared.path.TypeId.{TypeId}
use Rattle.schema_build.specs.Lineage.{at, line_shares_a_name}
use Rattle.schema_build.proofs.RepeatLaws.{shares_from}
use Rattle.schema_build.proofs.lineage.line_shares_a_name.Given as goal

abbrev pub invariant-loop-ty : goal.invariant-loop-ty
invariant-loop-ty l = shares_from l.seen (map (λ (t : TypeId). at l.names t.0) (drop l.ty-index l.line)) ≡ line_shares_a_name l.names l.fn.own l.line
