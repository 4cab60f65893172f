use Rattle.std.proofs.Common.{◌≡◌, ◌++◌, drop, zero}
use Rattle.sql_encode.specs.Sources.{type_sources}
use Rattle.sql_encode.proofs.sources.type_sources.Given as goal

abbrev pub invariant-loop-i : goal.invariant-loop-i
invariant-loop-i l = l.all ++ type_sources l.i (drop l.i l.types) ≡ type_sources zero l.types
