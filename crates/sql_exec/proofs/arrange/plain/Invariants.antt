use Rattle.std.proofs.Common.{◌≡◌, ◌++◌, reverse, length, map}
use Rattle.sql_exec.specs.Engine.{keyless_item}
use Rattle.sql_exec.proofs.arrange.plain.Given as goal

abbrev pub invariant-loop-item : goal.invariant-loop-item
invariant-loop-item l = map keyless_item l.left ++ reverse l.taken.items ≡ map keyless_item l.fn.rows

abbrev pub decreases-loop-item : goal.decreases-loop-item
decreases-loop-item l = length l.left
