use Rattle.std.proofs.Common.{◌≡◌, ◌++◌, drop}
use Rattle.schema_build.specs.Search.{found_from}
use Rattle.schema_build.proofs.lineage.numbers_found.Given as goal

abbrev pub invariant-loop-number : goal.invariant-loop-number
invariant-loop-number l = l.numbers ++ found_from l.number (drop l.number l.found) ≡ found_from 0 l.found
