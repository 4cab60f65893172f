use Rattle.std.proofs.Common.{◌≡◌, drop}
use Rattle.ev_index.specs.First.{nothing}
use Rattle.ev_index.specs.Index.{by_name}
use Rattle.ev_index.proofs.Firsts.{with_types}
use Rattle.ev_index.proofs.types.types_by_name.Given as goal

abbrev pub invariant-loop-place : goal.invariant-loop-place
invariant-loop-place l = with_types l.place (by_name l.found) (drop l.place l.types) ≡ with_types 0 nothing l.types
