use Rattle.std.proofs.Common.{◌≡◌, ◌++◌, drop}
use Rattle.ev_schema.specs.Named.{named_pointers}
use Rattle.ev_schema.proofs.named.named_pointers.Given as goal

abbrev pub invariant-loop-pointer : goal.invariant-loop-pointer
invariant-loop-pointer l = l.all ++ named_pointers l.infos (drop l.pointer-index l.listed) ≡ named_pointers l.infos l.listed
