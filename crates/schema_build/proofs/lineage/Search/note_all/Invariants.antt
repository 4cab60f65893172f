use Rattle.std.proofs.Common.{◌≡◌, drop}
use Rattle.schema_build.specs.Search.{all_noted}
use Rattle.schema_build.proofs.lineage.Search.note_all.Given as goal

abbrev pub invariant-loop-ty : goal.invariant-loop-ty
invariant-loop-ty l = all_noted l.self (drop l.ty-index l.types) ≡ all_noted l.fn.self l.types
