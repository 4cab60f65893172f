use Rattle.std.proofs.Common.{◌≡◌, drop, Some, None}
use Rattle.ev_schema.specs.Steps.{type_along}
use Rattle.ev_schema.proofs.schema.Schema.type_along.Given as goal

abbrev pub invariant-loop-step : goal.invariant-loop-step
invariant-loop-step l = type_along l.self l.link (Some l.reached) (drop l.step-index l.steps) ≡ type_along l.self None (Some l.ty) l.steps
