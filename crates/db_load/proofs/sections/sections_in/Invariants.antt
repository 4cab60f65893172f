use Rattle.std.proofs.Common.{◌≡◌}
use Rattle.serde_json.specs.View.{members_view}
use Rattle.db_load.specs.Sections.{sections_from, no_sections}
use Rattle.db_load.specs.Views.{seen}
use Rattle.db_load.proofs.sections.sections_in.Given as goal

-- what is left, put to the two objects so far, gives what the whole does
abbrev pub invariant-loop-key : goal.invariant-loop-key
invariant-loop-key l = sections_from (seen l.sections) (members_view l.key-iterator) ≡ sections_from no_sections (members_view l.fn.map.entries)
