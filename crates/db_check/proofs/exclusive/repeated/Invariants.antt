use Rattle.std.proofs.Common.{◌≡◌, drop, None}
use Rattle.db_check.specs.Exclusive.{repeated, held_with}
use Rattle.db_check.specs.Holders.{held_by}
use Rattle.db_check.proofs.exclusive.repeated.Given as goal

abbrev pub invariant-loop-value : goal.invariant-loop-value
invariant-loop-value l = record {
  least : repeated l.found (held_by l.holders) l.object l.pointer (drop l.value-index l.values) ≡ repeated None (held_by l.fn.holders) l.object l.pointer l.values;
  held : held_with (held_by l.holders) l.object l.pointer (drop l.value-index l.values) ≡ held_with (held_by l.fn.holders) l.object l.pointer l.values;
}
