use Rattle.std.proofs.Common.{◌≡◌, drop}
use Rattle.db_values.specs.Properties.{breaks}
use Rattle.db_values.proofs.limits.breaks.Given as goal

abbrev pub invariant-loop-limit : goal.invariant-loop-limit
invariant-loop-limit l = breaks (drop l.limit-index l.limits) l.value ≡ breaks l.limits l.value
