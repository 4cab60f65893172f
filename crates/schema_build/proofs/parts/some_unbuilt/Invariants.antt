use Rattle.std.proofs.Common.{◌≡◌, drop}
use Rattle.std.specs.List.{list_any}
use Rattle.schema_build.specs.Parts.{has_unbuilt}
use Rattle.schema_build.proofs.parts.some_unbuilt.Given as goal

abbrev pub invariant-loop-decl : goal.invariant-loop-decl
invariant-loop-decl l = list_any has_unbuilt (drop l.decl-index l.decls) ≡ list_any has_unbuilt l.decls
