use Rattle.std.proofs.Common.{◌≡◌, drop}
use Rattle.std.specs.List.{list_any}
use Rattle.db_store.specs.Limits.{same}
use Rattle.db_values.proofs.limits.is_among.Given as goal

abbrev pub invariant-loop-other : goal.invariant-loop-other
invariant-loop-other l = list_any (same l.value) (drop l.other-index l.values) ≡ list_any (same l.value) l.values
