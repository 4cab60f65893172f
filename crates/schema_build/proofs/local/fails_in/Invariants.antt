use Rattle.std.proofs.Common.{◌≡◌, drop}
use Rattle.schema_build.specs.Least.{sooner, least_of}
use Rattle.schema_build.specs.Local.{in_decl}
use Rattle.schema_build.proofs.local.fails_in.Given as goal

abbrev pub invariant-loop-decl : goal.invariant-loop-decl
invariant-loop-decl l = sooner l.found (least_of (in_decl l.types l.rule) (drop l.decl-index l.decls)) ≡ least_of (in_decl l.types l.rule) l.decls
