use Rattle.std.proofs.Common.{◌≡◌, drop}
use Rattle.eql_steps.specs.ById.{by_id}
use Rattle.eql_steps.specs.Index.{with_objects, sourced}
use Rattle.eql_steps.proofs.index.sources_by_id.Given as goal

abbrev pub invariant-loop-place : goal.invariant-loop-place
invariant-loop-place l = with_objects l.place (by_id l.sources) (drop l.place l.objects) ≡ sourced l.objects
