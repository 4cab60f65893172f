use Rattle.std.proofs.Common.{◌≡◌, drop}
use Rattle.sql_check.specs.Types.{all_same}
use Rattle.sql_check.proofs.kind.+same.Given as goal

abbrev pub invariant-all_same-loop-first : goal.invariant-all_same-loop-first
invariant-all_same-loop-first l = all_same (drop l.first-index l.firsts) l.left ≡ all_same l.firsts l.others
