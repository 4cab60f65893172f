use Rattle.std.proofs.Common.{◌≡◌, drop}
use Rattle.ev_schema.specs.Pointers.{first_named}
use Rattle.ev_schema.proofs.schema.named_among.Given as goal

abbrev pub invariant-loop-pointer : goal.invariant-loop-pointer
invariant-loop-pointer l = first_named l.pointers (drop l.pointer-index l.listed) l.name ≡ first_named l.pointers l.listed l.name
