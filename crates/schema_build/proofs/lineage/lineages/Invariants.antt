use Rattle.std.proofs.Common.{◌≡◌, ◌<◌, length}
use Rattle.core_ir.specs.declared.path.TypeId.{TypeId}
use Rattle.schema_build.specs.Lineage.{at, IsLineage}
use Rattle.schema_build.proofs.lineage.lineages.Given as goal

abbrev pub invariant-loop-number : goal.invariant-loop-number
invariant-loop-number l = (length l.lines ≡ l.number) × ((a : TypeId) → a.0 < l.number → IsLineage l.bases a (at l.lines a.0))
