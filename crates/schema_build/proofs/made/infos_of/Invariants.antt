use Rattle.std.proofs.Common.{◌≡◌, ◌≤◌, ◌++◌, drop}
use Rattle.schema_build.specs.Made.{infos_from}
use Rattle.schema_build.proofs.made.infos_of.Given as goal

abbrev pub invariant-loop-decl : goal.invariant-loop-decl
invariant-loop-decl l = (l.infos ++ infos_from l.numbers l.lines l.number (drop l.decl-index l.decls) ≡ infos_from l.numbers l.lines 0 l.decls) × (l.number ≤ l.decl-index)
