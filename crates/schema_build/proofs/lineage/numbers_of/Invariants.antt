use Rattle.std.proofs.Common.{◌≡◌, ◌++◌, drop}
use Rattle.schema_build.specs.Lineage.{numbers_of}
use Rattle.schema_build.proofs.lineage.numbers_of.Given as goal

abbrev pub invariant-loop-base : goal.invariant-loop-base
invariant-loop-base l = l.numbers ++ numbers_of l.types (drop l.base-index l.bases) ≡ numbers_of l.types l.bases
