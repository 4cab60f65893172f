use Rattle.std.proofs.Common.{◌≡◌, ◌++◌, drop}
use Rattle.db_values.specs.Made.{entries}
use Rattle.db_values.proofs.object.entries.Given as goal

abbrev pub invariant-loop-pointer : goal.invariant-loop-pointer
invariant-loop-pointer l = l.all ++ entries l.infos l.members (drop l.pointer-index l.listed) ≡ entries l.infos l.members l.listed
