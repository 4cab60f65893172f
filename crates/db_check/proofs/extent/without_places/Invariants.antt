use Rattle.std.proofs.Common.{◌≡◌, []}
use Rattle.db_check.specs.Extent.{extents_of}
use Rattle.db_check.proofs.extent.without_places.Given as goal

abbrev pub invariant-loop-k : goal.invariant-loop-k
invariant-loop-k l = l.all.items ≡ extents_of l.types [] l.k
