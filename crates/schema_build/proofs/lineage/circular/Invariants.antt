use Rattle.std.proofs.Common.{◌≡◌, ◌≤◌, drop}
use Rattle.schema_build.specs.Least.{sooner}
use Rattle.schema_build.specs.Lineage.{circular_from, circular}
use Rattle.schema_build.proofs.lineage.circular.Given as goal

abbrev pub invariant-loop-decl : goal.invariant-loop-decl
invariant-loop-decl l = (sooner l.found (circular_from l.lines l.number (drop l.decl-index l.decls)) ≡ circular l.lines l.decls) × (l.number ≤ l.decl-index)
