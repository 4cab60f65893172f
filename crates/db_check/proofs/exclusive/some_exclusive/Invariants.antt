use Rattle.std.proofs.Common.{◌≡◌, drop}
use Rattle.std.specs.List.{list_any}
use Rattle.db_store.specs.Fits.{is_exclusive}
use Rattle.db_check.proofs.exclusive.some_exclusive.Given as goal

abbrev pub invariant-loop-limit : goal.invariant-loop-limit
invariant-loop-limit l = list_any is_exclusive (drop l.limit-index l.limits) ≡ list_any is_exclusive l.limits
