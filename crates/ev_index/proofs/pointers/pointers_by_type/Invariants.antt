use Rattle.std.proofs.Common.{◌≡◌, ◌++◌, drop, map}
use Rattle.ev_index.specs.Index.{by_name, pointers_of}
use Rattle.ev_index.proofs.pointers.pointers_by_type.Given as goal

abbrev pub invariant-loop-info : goal.invariant-loop-info
invariant-loop-info l = map by_name l.found ++ map (pointers_of l.pointers) (drop l.info-index l.types) ≡ map (pointers_of l.pointers) l.types
