use Rattle.std.proofs.Common.{◌≡◌, drop}
use Rattle.db_check.specs.Check.{values_from}
use Rattle.db_check.proofs.made.check_values.Given as goal

abbrev pub invariant-loop-i : goal.invariant-loop-i
invariant-loop-i l = values_from l.schema l.orders l.heads l.i (drop l.i l.heads) (drop l.i l.drafts) ≡ values_from l.schema l.orders l.heads 0 l.heads l.drafts
