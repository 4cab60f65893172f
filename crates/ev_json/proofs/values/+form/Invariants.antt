-- What is made so far prints the forms and fields so far.
use Rattle.std.proofs.Common.{map, take}
use Rattle.ev_value.specs.JsonText.{json_text, field_text}
use Rattle.ev_json.specs.Printed.{ArePrinted, HasMembers}
use Rattle.ev_json.proofs.values.+form.Given as goal

abbrev pub invariant-array_of-loop-form : goal.invariant-array_of-loop-form
invariant-array_of-loop-form l = ArePrinted l.values.items (map json_text (take l.form-index l.forms))

abbrev pub invariant-members_of-loop-field : goal.invariant-members_of-loop-field
invariant-members_of-loop-field l = HasMembers l.members.entries (map field_text (take l.field-index l.fields))
