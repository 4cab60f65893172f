use Rattle.std.proofs.Common.{◌≡◌, ◌≤◌, ◌++◌, drop}
use Rattle.schema_build.specs.Made.{pointers_from}
use Rattle.schema_build.proofs.made.pointers_of.Given as goal

abbrev pub invariant-loop-decl : goal.invariant-loop-decl
invariant-loop-decl l = (l.pointers ++ pointers_from l.types l.number (drop l.decl-index l.decls) ≡ pointers_from l.types 0 l.decls) × (l.number ≤ l.decl-index)
