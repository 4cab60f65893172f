use Rattle.std.proofs.Common.{◌≡◌, drop}
use Rattle.ev_index.specs.Index.{by_name}
use Rattle.ev_index.proofs.Firsts.{with_pointers}
use Rattle.ev_index.proofs.pointers.pointers_by_name.Given as goal
use Rattle.ev_schema.specs.Pointers.{first_named}

abbrev pub invariant-loop-pointer : goal.invariant-loop-pointer
invariant-loop-pointer l = with_pointers l.pointers (by_name l.found) (drop l.pointer-index l.listed) ≡ first_named l.pointers l.listed
