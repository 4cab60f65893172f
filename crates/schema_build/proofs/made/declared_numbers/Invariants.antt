use Rattle.std.proofs.Common.{◌≡◌, ◌++◌, ◌+◌, drop}
use Rattle.schema_build.specs.Made.{declared_numbers, count_of}
use Rattle.schema_build.proofs.made.declared_numbers.Given as goal

abbrev pub invariant-loop-own : goal.invariant-loop-own
invariant-loop-own l = (l.all ++ declared_numbers l.first (drop l.own-index l.names) ≡ declared_numbers 0 l.names) × (l.first + count_of (drop l.own-index l.names) ≡ count_of l.names)
