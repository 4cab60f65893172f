use Rattle.std.proofs.Common.{◌≡◌, drop, is_none}
use Rattle.std.specs.List.{list_any}
use Rattle.db_values.specs.Links.{target_id}
use Rattle.db_values.proofs.links.some_nameless.Given as goal

abbrev pub invariant-loop-element : goal.invariant-loop-element
invariant-loop-element l = list_any (λ e. is_none (target_id e)) (drop l.element-index l.elements) ≡ list_any (λ e. is_none (target_id e)) l.elements
