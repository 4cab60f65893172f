use Rattle.std.proofs.Common.{take}
use Rattle.sql_check.specs.Walk.{IsLeast}
use Rattle.sql_check.proofs.check.least.Given as goal

abbrev pub invariant-loop-byte : goal.invariant-loop-byte
invariant-loop-byte l = IsLeast l.found (take l.byte-index l.bytes)
