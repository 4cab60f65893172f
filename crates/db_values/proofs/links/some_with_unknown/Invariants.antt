use Rattle.std.proofs.Common.{◌≡◌, drop}
use Rattle.std.specs.List.{list_any}
use Rattle.db_values.specs.Links.{is_unknown, fields_of}
use Rattle.db_values.proofs.links.some_with_unknown.Given as goal

abbrev pub invariant-loop-element : goal.invariant-loop-element
invariant-loop-element l = list_any (λ e. list_any (is_unknown l.properties) (fields_of e)) (drop l.element-index l.elements) ≡ list_any (λ e. list_any (is_unknown l.properties) (fields_of e)) l.elements
