use Rattle.std.proofs.Common.{◌≡◌, drop}
use Rattle.db_draft.specs.Members.{field as field_in}
use Rattle.db_draft.proofs.members.field.Given as goal

-- what is left has what the whole has
abbrev pub invariant-loop-field : goal.invariant-loop-field
invariant-loop-field l = field_in (drop l.field-index l.fields) l.name ≡ field_in l.fn.fields l.fn.name
