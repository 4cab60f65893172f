use Rattle.std.proofs.Common.{◌≡◌, drop}
use Rattle.db_check.specs.Exclusive.{exclusive, exclusive_from}
use Rattle.db_check.specs.Holders.{held_by}
use Rattle.db_check.proofs.exclusive.check_exclusive.Given as goal

abbrev pub invariant-loop-i : goal.invariant-loop-i
invariant-loop-i l = exclusive_from l.infos l.orders (held_by l.holders) l.i (drop l.i l.objects) ≡ exclusive l.infos l.orders l.objects
