use Rattle.std.proofs.Common.{◌≡◌, drop}
use Rattle.db_check.specs.Exclusive.{clash, held_after}
use Rattle.db_check.specs.Holders.{held_by}
use Rattle.db_check.proofs.exclusive.clash.Given as goal

abbrev pub invariant-loop-pointer : goal.invariant-loop-pointer
invariant-loop-pointer l = record {
  first : clash l.infos (held_by l.holders) l.number l.object (drop l.pointer-index l.listed) ≡ clash l.infos (held_by l.fn.holders) l.number l.object l.listed;
  held : held_after l.infos (held_by l.holders) l.number l.object (drop l.pointer-index l.listed) ≡ held_after l.infos (held_by l.fn.holders) l.number l.object l.listed;
}
