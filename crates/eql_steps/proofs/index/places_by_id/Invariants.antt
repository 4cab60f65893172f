use Rattle.std.proofs.Common.{◌≡◌, drop}
use Rattle.eql_steps.specs.ById.{by_id, nothing}
use Rattle.eql_steps.proofs.Placed.{with_places}
use Rattle.eql_steps.proofs.index.places_by_id.Given as goal

abbrev pub invariant-loop-place : goal.invariant-loop-place
invariant-loop-place l = with_places l.place (by_id l.places) (drop l.place l.objects) ≡ with_places 0 nothing l.objects
