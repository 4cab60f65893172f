use Rattle.std.proofs.Common.{◌≡◌, ◌++◌, drop}
use Rattle.schema_build.specs.Lineage.{bases_of}
use Rattle.schema_build.proofs.lineage.bases_of.Given as goal

abbrev pub invariant-loop-decl : goal.invariant-loop-decl
invariant-loop-decl l = l.all ++ bases_of l.types (drop l.decl-index l.decls) ≡ bases_of l.types l.decls
