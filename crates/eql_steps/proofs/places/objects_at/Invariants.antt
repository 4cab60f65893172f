use Rattle.std.proofs.Common.{◌≡◌, ◌++◌, drop, true}
use Rattle.ev_value.specs.Item.{all_of}
use Rattle.eql_steps.specs.Index.{kept_at}
use Rattle.eql_steps.proofs.places.objects_at.Given as goal

abbrev pub invariant-loop-place : goal.invariant-loop-place
invariant-loop-place l = l.out ++ all_of (kept_at (λ o. true) l.objects (drop l.place-index l.places)) ≡ all_of (kept_at (λ o. true) l.objects l.places)
