use Rattle.std.proofs.Common.{◌≡◌, ◌++◌, drop, zero}
use Rattle.sql_encode.specs.Sources.{pointer_sources}
use Rattle.sql_encode.proofs.sources.pointer_sources.Given as goal

abbrev pub invariant-loop-i : goal.invariant-loop-i
invariant-loop-i l = l.all ++ pointer_sources l.schema l.i (drop l.i l.pointers) ≡ pointer_sources l.schema zero l.pointers
