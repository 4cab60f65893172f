use Rattle.std.proofs.Common.{◌≡◌, drop}
use Rattle.schema_build.specs.Made.{or_before, default_in}
use Rattle.schema_build.proofs.made.default_in.Given as goal

-- what is found counts unless something of what is left does
abbrev pub invariant-loop-item : goal.invariant-loop-item
invariant-loop-item l = or_before (default_in (drop l.item-index l.items)) l.found ≡ default_in l.items
