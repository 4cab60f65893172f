use Rattle.std.proofs.Common.{◌≡◌, ◌++◌, drop}
use Rattle.schema_build.specs.Lineage.{declared_names}
use Rattle.schema_build.proofs.lineage.declared_names.Given as goal

abbrev pub invariant-loop-decl : goal.invariant-loop-decl
invariant-loop-decl l = l.all ++ declared_names (drop l.decl-index l.decls) ≡ declared_names l.decls
