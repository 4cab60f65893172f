-- The copies so far are the forms and fields so far.
use Rattle.std.proofs.Common.{◌≡◌, take}
use Rattle.eql_sem.proofs.+copy.Given as goal

abbrev pub invariant-copies::copied_forms-loop-form : goal.invariant-copies::copied_forms-loop-form
invariant-copies::copied_forms-loop-form l = l.copies ≡ take l.form-index l.forms

abbrev pub invariant-copies::copied_fields-loop-field : goal.invariant-copies::copied_fields-loop-field
invariant-copies::copied_fields-loop-field l = l.copies ≡ take l.field-index l.fields
