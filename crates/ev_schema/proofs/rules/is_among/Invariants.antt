use Rattle.std.proofs.Common.{◌≡◌, drop}
use Rattle.std.specs.List.{list_any}
use Rattle.ev_schema.specs.Types.{same_type}
use Rattle.ev_schema.proofs.rules.is_among.Given as goal

abbrev pub invariant-loop-other : goal.invariant-loop-other
invariant-loop-other l = list_any (same_type l.ty) (drop l.other-index l.types) ≡ list_any (same_type l.ty) l.types
