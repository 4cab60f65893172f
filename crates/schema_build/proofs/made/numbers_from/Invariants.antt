use Rattle.std.proofs.Common.{◌≡◌, ◌++◌, ◌+◌, ◌-◌}
use Rattle.schema_build.specs.Made.{numbers_from}
use Rattle.schema_build.proofs.made.numbers_from.Given as goal

abbrev pub invariant-loop-place : goal.invariant-loop-place
invariant-loop-place l = l.numbers ++ numbers_from (l.first + l.place) (l.count - l.place) ≡ numbers_from l.first l.count
