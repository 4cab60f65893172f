use Rattle.std.proofs.Common.{◌≡◌, drop, not}
use Rattle.std.specs.List.{list_any}
use Rattle.db_values.specs.Links.{leads}
use Rattle.db_values.proofs.links.some_astray.Given as goal

abbrev pub invariant-loop-element : goal.invariant-loop-element
invariant-loop-element l = list_any (λ e. not (leads l.schema.types l.heads l.ty e)) (drop l.element-index l.elements) ≡ list_any (λ e. not (leads l.schema.types l.heads l.ty e)) l.elements
