use Rattle.std.proofs.Common.{◌≡◌, ◌+◌, ◌-◌, ◌^◌, min, drop}
use Rattle.schema_build.specs.Made.{count_of}
use Rattle.schema_build.proofs.verdict.are_few.Given as goal

abbrev pub invariant-loop-own : goal.invariant-loop-own
invariant-loop-own l = min (l.count + count_of (drop l.own-index l.names)) (2 ^ 64 - 1) ≡ min (count_of l.names) (2 ^ 64 - 1)
