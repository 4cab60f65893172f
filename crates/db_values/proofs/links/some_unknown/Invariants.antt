use Rattle.std.proofs.Common.{◌≡◌, drop}
use Rattle.std.specs.List.{list_any}
use Rattle.db_values.specs.Links.{is_unknown}
use Rattle.db_values.proofs.links.some_unknown.Given as goal

abbrev pub invariant-loop-field : goal.invariant-loop-field
invariant-loop-field l = list_any (is_unknown l.properties) (drop l.field-index l.fields) ≡ list_any (is_unknown l.properties) l.fields
