use Rattle.std.proofs.Common.{◌+◌, map, take, subst, sym, ap, ◌∙◌}
use Rattle.ev_value.specs.JsonText.{json_text, field_text, json_array, json_object}
use Rattle.ev_value.proofs.JsonTexts.{null_text, scalar_text, array_text, object_text}
use Rattle.ev_json.specs.Printed.{IsPrinted, ArePrinted}
use Rattle.ev_json.proofs.Printing.{printed_null, printed_array, printed_object, printed_more, if_printed}
use Rattle.ev_json.proofs.values.+form.Goals as goal

pub json_of-returns-in-Null : goal.json_of-returns-in-Null
json_of-returns-in-Null t c = subst (IsPrinted _) (sym (ap json_text c.in-Null.is ∙ null_text)) printed_null

pub json_of-returns-in-Scalar : goal.json_of-returns-in-Scalar
json_of-returns-in-Scalar t c = if_printed c.value_of.result _ _ (ap json_text c.in-Scalar.is ∙ scalar_text _) c.value_of.ensures

pub json_of-returns-in_ok-array_of-in-Array : goal.json_of-returns-in_ok-array_of-in-Array
json_of-returns-in_ok-array_of-in-Array t c =
    subst (IsPrinted _) (sym (ap json_text c.in-Array.is ∙ array_text _ ∙ ap (λ fs. json_array (map json_text fs)) (sym c.as_slice.ensures)))
    (printed_array c.in_ok-array_of-in-Array.field-0 _ c.in_ok-array_of-in-Array.ensures)

pub json_of-returns-in_ok-members_of-in-Object : goal.json_of-returns-in_ok-members_of-in-Object
json_of-returns-in_ok-members_of-in-Object t c =
    subst (IsPrinted _) (sym (ap json_text c.in-Object.is ∙ object_text _ ∙ ap (λ fs. json_object (map field_text fs)) (sym c.as_slice-in-Object.ensures)))
    (printed_object c.in_ok-members_of-in-Object.field-0 _ c.in_ok-members_of-in-Object.ensures)

pub array_of-loop-form-preserved : goal.array_of-loop-form-preserved
array_of-loop-form-preserved t c =
    subst (λ vs. ArePrinted vs (map json_text (take (c.loop-form.form-index + 1) c.args.forms.now))) (sym c.in_ok-push.ensures.items)
    (printed_more json_text c.args.forms.now c.loop-form.form-index c.form-item.result c.loop-form.values.items c.in_ok-json_of.field-0 c.loop-form-test.true c.form-item.is c.loop-form.invariant c.in_ok-json_of.ensures)
