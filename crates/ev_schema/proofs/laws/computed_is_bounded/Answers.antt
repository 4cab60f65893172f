use Rattle.ev_schema.proofs.BoundLaws.{computed_bounds}
use Rattle.ev_schema.proofs.laws.computed_is_bounded.Goals as goal

pub returns : goal.returns
returns c = computed_bounds
