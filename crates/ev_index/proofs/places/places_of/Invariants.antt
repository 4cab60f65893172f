use Rattle.std.proofs.Common.{◌≡◌, drop}
use Rattle.ev_index.specs.First.{nothing}
use Rattle.ev_index.specs.Index.{place_of}
use Rattle.ev_index.proofs.Firsts.{with_places}
use Rattle.ev_index.proofs.places.places_of.Given as goal

abbrev pub invariant-loop-place : goal.invariant-loop-place
invariant-loop-place l = with_places l.place (place_of l.places) (drop l.place l.computed) ≡ with_places 0 nothing l.computed
