use Rattle.std.proofs.Common.{◌≡◌, ◌+◌, map, take, to_z, of_z, rules, subst, sym, ap, ◌∙◌}
use Rattle.std.specs.Int.{w64}
use Rattle.std.specs.Fmt.{signed_decimal}
use Rattle.ev_value.specs.JsonText.{value_text, json_string, json_array}
use Rattle.ev_value.proofs.JsonTexts.{int_text, str_text, bool_text, uuid_text, obj_text, tuple_text, elements_text}
use Rattle.ev_json.specs.Printed.{IsPrinted, ArePrinted}
use Rattle.ev_json.proofs.Printing.{printed_number, printed_bool, printed_array, printed_more, if_printed}
use Rattle.ev_json.proofs.values.+value.Goals as goal

pub value_of-returns-in-Int : goal.value_of-returns-in-Int
value_of-returns-in-Int t c =
    let read : to_z w64 (of_z w64 c.in-Int.number) ≡ c.in-Int.number = search rules in
    subst (IsPrinted c.from.result) (sym (ap value_text c.in-Int.is ∙ int_text _ ∙ ap signed_decimal (sym read))) (printed_number c.from.result _ c.from.ensures)

pub value_of-returns-in-Str : goal.value_of-returns-in-Str
value_of-returns-in-Str t c = if_printed c.text_value.result _ _ (ap value_text c.in-Str.is ∙ str_text _ ∙ ap json_string (sym c.as_str.ensures)) c.text_value.ensures

pub value_of-returns-in-Bool : goal.value_of-returns-in-Bool
value_of-returns-in-Bool t c = subst (IsPrinted _) (sym (ap value_text c.in-Bool.is ∙ bool_text _)) (printed_bool c.in-Bool.truth)

pub value_of-returns-in-Id : goal.value_of-returns-in-Id
value_of-returns-in-Id t c = if_printed c.id_value.result _ _ (ap value_text c.in-Id.is ∙ uuid_text _) c.id_value.ensures

pub value_of-returns-in-Obj : goal.value_of-returns-in-Obj
value_of-returns-in-Obj t c = if_printed c.object_value.result _ _ (ap value_text c.in-Obj.is ∙ obj_text _) c.object_value.ensures

pub value_of-returns-in_ok-values_of-in-Tuple : goal.value_of-returns-in_ok-values_of-in-Tuple
value_of-returns-in_ok-values_of-in-Tuple t c = subst (IsPrinted _) (sym (ap value_text c.in-Tuple.is ∙ tuple_text _ ∙ ap (λ vs. json_array (map value_text vs)) (sym c.as_slice.ensures))) (printed_array c.in_ok-values_of-in-Tuple.field-0 _ c.in_ok-values_of-in-Tuple.ensures)

pub value_of-returns-in_ok-values_of-in-Array : goal.value_of-returns-in_ok-values_of-in-Array
value_of-returns-in_ok-values_of-in-Array t c = subst (IsPrinted _) (sym (ap value_text c.in-Array.is ∙ elements_text _ ∙ ap (λ vs. json_array (map value_text vs)) (sym c.as_slice-in-Array.ensures))) (printed_array c.in_ok-values_of-in-Array.field-0 _ c.in_ok-values_of-in-Array.ensures)

pub values_of-loop-part-preserved : goal.values_of-loop-part-preserved
values_of-loop-part-preserved t c =
    subst (λ vs. ArePrinted vs (map value_text (take (c.loop-part.part-index + 1) c.args.parts.now))) (sym c.in_ok-push.ensures.items)
    (printed_more value_text c.args.parts.now c.loop-part.part-index c.part-item.result c.loop-part.values.items c.in_ok-value_of.field-0 c.loop-part-test.true c.part-item.is c.loop-part.invariant c.in_ok-value_of.ensures)
