use Rattle.std.proofs.Common.{◌≡◌, drop}
use Rattle.sql_check.specs.Types.{alike as are_alike}
use Rattle.sql_check.proofs.judge.alike.Given as goal

abbrev pub invariant-loop-first : goal.invariant-loop-first
invariant-loop-first l = are_alike (drop l.first-index l.firsts) l.left ≡ are_alike l.firsts l.columns
