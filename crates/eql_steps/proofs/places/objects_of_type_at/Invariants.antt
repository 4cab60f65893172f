use Rattle.std.proofs.Common.{◌≡◌, ◌++◌, drop}
use Rattle.ev_value.specs.Item.{all_of}
use Rattle.ev_schema.specs.Types.{is_subtype}
use Rattle.eql_steps.specs.Index.{kept_at}
use Rattle.eql_steps.proofs.places.objects_of_type_at.Given as goal

abbrev pub invariant-loop-place : goal.invariant-loop-place
invariant-loop-place l = l.out ++ all_of (kept_at (λ o. is_subtype l.schema.types o.ty l.ty) l.objects (drop l.place-index l.places)) ≡ all_of (kept_at (λ o. is_subtype l.schema.types o.ty l.ty) l.objects l.places)
