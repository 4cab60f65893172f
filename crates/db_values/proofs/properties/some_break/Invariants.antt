use Rattle.std.proofs.Common.{◌≡◌, drop}
use Rattle.std.specs.List.{list_any}
use Rattle.db_values.specs.Properties.{breaks}
use Rattle.db_values.proofs.properties.some_break.Given as goal

abbrev pub invariant-loop-value : goal.invariant-loop-value
invariant-loop-value l = list_any (breaks l.limits) (drop l.value-index l.values) ≡ list_any (breaks l.limits) l.values
