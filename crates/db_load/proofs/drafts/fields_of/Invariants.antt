use Rattle.std.proofs.Common.{◌≡◌, ◌++◌}
use Rattle.serde_json.specs.View.{members_view}
use Rattle.db_load.specs.Drafts.{fields_of as fields_of_members}
use Rattle.db_load.proofs.drafts.fields_of.Given as goal

-- the fields so far, and those of what is left
abbrev pub invariant-loop-key : goal.invariant-loop-key
invariant-loop-key l = l.fields ++ fields_of_members (members_view l.key-iterator) ≡ fields_of_members (members_view l.fn.map.entries)
