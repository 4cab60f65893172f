use Rattle.std.proofs.Common.{◌≡◌, drop, zero}
use Rattle.ev_schema.specs.Named.{type_from}
use Rattle.ev_schema.proofs.named.type_named.Given as goal

abbrev pub invariant-loop-i : goal.invariant-loop-i
invariant-loop-i l = type_from l.i (drop l.i l.types) l.name ≡ type_from zero l.types l.name
