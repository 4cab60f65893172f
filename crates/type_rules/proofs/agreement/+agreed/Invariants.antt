use Rattle.std.proofs.Common.{◌≡◌, drop}
use Rattle.type_rules.specs.Agreement.{agreed_each}
use Rattle.type_rules.proofs.Agreeing.{behind}
use Rattle.type_rules.proofs.agreement.+agreed.Given as goal

abbrev pub invariant-agreed_parts-loop-part : goal.invariant-agreed_parts-loop-part
invariant-agreed_parts-loop-part l = behind l.types (agreed_each l.schema.types (drop l.part-index l.parts) l.left) ≡ agreed_each l.schema.types l.parts l.others
