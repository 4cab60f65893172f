use Rattle.std.proofs.Common.{◌≡◌, ◌≤◌, drop}
use Rattle.schema_build.specs.Least.{sooner}
use Rattle.schema_build.specs.Lineage.{clashing_from}
use Rattle.schema_build.proofs.lineage.clashing.Given as goal

abbrev pub invariant-loop-decl : goal.invariant-loop-decl
invariant-loop-decl l = (sooner l.found (clashing_from l.names l.lines l.number (drop l.decl-index l.decls)) ≡ clashing_from l.names l.lines 0 l.decls) × (l.number ≤ l.decl-index)
