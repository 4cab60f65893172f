use Rattle.std.proofs.Common.{◌≡◌, ◌++◌, drop}
use Rattle.schema_build.specs.Made.{globals_of}
use Rattle.schema_build.proofs.made.globals_of.Given as goal

abbrev pub invariant-loop-decl : goal.invariant-loop-decl
invariant-loop-decl l = l.globals ++ globals_of l.types (drop l.decl-index l.decls) ≡ globals_of l.types l.decls
