use Rattle.std.proofs.Common.{◌≡◌, ◌++◌, drop}
use Rattle.schema_build.specs.Least.{sooner}
use Rattle.schema_build.specs.Twice.{type_names, repeats_after, repeats}
use Rattle.schema_build.proofs.twice.names_declared.Given as goal

abbrev pub invariant-loop-decl : goal.invariant-loop-decl
invariant-loop-decl l = (sooner l.found (repeats_after l.types l.globals (drop l.decl-index l.decls)) ≡ repeats l.decls) × (l.types ++ type_names (drop l.decl-index l.decls) ≡ type_names l.decls)
