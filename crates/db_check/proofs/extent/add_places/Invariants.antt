use Rattle.std.proofs.Common.{◌≡◌, drop}
use Rattle.db_check.specs.Placing.{with_places}
use Rattle.db_check.proofs.extent.add_places.Given as goal

abbrev pub invariant-loop-ty : goal.invariant-loop-ty
invariant-loop-ty l = with_places l.place l.extents.items (drop l.ty-index l.types) ≡ with_places l.place l.fn.extents.items l.types
