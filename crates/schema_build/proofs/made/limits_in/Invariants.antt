use Rattle.std.proofs.Common.{◌≡◌, ◌++◌, drop}
use Rattle.schema_build.specs.Made.{limits_in}
use Rattle.schema_build.proofs.made.limits_in.Given as goal

abbrev pub invariant-loop-item : goal.invariant-loop-item
invariant-loop-item l = l.limits ++ limits_in (drop l.item-index l.items) ≡ limits_in l.items
