use Rattle.std.proofs.Common.{sym, ◌∙◌, nat_cmp, arith}
use Rattle.ev_value.specs.Order.{val_cmp}
use Rattle.ev_value.specs.declared.value.Val.TheVariants.{Int, Str, Id, Obj, Tuple, Array}
use Rattle.ev_value.specs.declared.value.Val.TheVariants as val
use Rattle.ev_value.proofs.Orders.{tuple_cmp, array_cmp, by_kinds, int_apart, str_apart, bool_apart, id_apart, obj_apart, tuple_apart, array_apart, ends_less}
use Rattle.std.specs.Cmp.Lexicographic.{slice_cmp}
use Rattle.ev_value.proofs.order.+order.Goals as goal
use Rattle.ev_value.proofs.order.+order.Goals.{cmp_val-in_default-via-in-Int+in_default, cmp_val-in_default-via-in-Str+in_default, cmp_val-in_default-via-in-Bool+in_default, cmp_val-in_default-via-in-Id+in_default, cmp_val-in_default-via-in-Obj+in_default, cmp_val-in_default-via-in-Tuple+in_default, cmp_val-in_default-via-in-Array+in_default}

pub cmp_val-returns-in-Int-Int : goal.cmp_val-returns-in-Int-Int
unfolding val_cmp
cmp_val-returns-in-Int-Int t c = c.cmp.ensures ∙ sym (λ i. val_cmp (c.in-Int-Int.is-0 i) (c.in-Int-Int.is-1 i))

pub cmp_val-returns-in-Bool-Bool : goal.cmp_val-returns-in-Bool-Bool
unfolding val_cmp
cmp_val-returns-in-Bool-Bool t c = c.cmp-in-Bool-Bool.ensures ∙ sym (λ i. val_cmp (c.in-Bool-Bool.is-0 i) (c.in-Bool-Bool.is-1 i))

pub cmp_val-returns-in-Id-Id : goal.cmp_val-returns-in-Id-Id
unfolding val_cmp
cmp_val-returns-in-Id-Id t c = c.cmp-in-Id-Id.ensures ∙ sym (λ i. val_cmp (c.in-Id-Id.is-0 i) (c.in-Id-Id.is-1 i))

pub cmp_val-returns-in-Obj-Obj : goal.cmp_val-returns-in-Obj-Obj
unfolding val_cmp
cmp_val-returns-in-Obj-Obj t c = c.cmp-in-Obj-Obj.ensures ∙ sym (λ i. val_cmp (c.in-Obj-Obj.is-0 i) (c.in-Obj-Obj.is-1 i))

pub cmp_val-returns-in-Str-Str : goal.cmp_val-returns-in-Str-Str
unfolding val_cmp
cmp_val-returns-in-Str-Str t c = c.cmp-in-Str-Str.ensures ∙ (λ i. slice_cmp nat_cmp (c.as_str.ensures i) (c.as_str-in-Str-Str.ensures i)) ∙ sym (λ i. val_cmp (c.in-Str-Str.is-0 i) (c.in-Str-Str.is-1 i))

pub cmp_val-returns-in-Tuple-Tuple : goal.cmp_val-returns-in-Tuple-Tuple
cmp_val-returns-in-Tuple-Tuple t c = c.cmp_vals.ensures ∙ (λ i. slice_cmp val_cmp (c.as_slice.ensures i) (c.as_slice-in-Tuple-Tuple.ensures i)) ∙ sym (tuple_cmp c.in-Tuple-Tuple.a c.in-Tuple-Tuple.b) ∙ sym (λ i. val_cmp (c.in-Tuple-Tuple.is-0 i) (c.in-Tuple-Tuple.is-1 i))

pub cmp_val-returns-in-Array-Array : goal.cmp_val-returns-in-Array-Array
cmp_val-returns-in-Array-Array t c = c.cmp_vals-in-Array-Array.ensures ∙ (λ i. slice_cmp val_cmp (c.as_slice-in-Array-Array.ensures i) (c.as_slice-in-Array-Array-2.ensures i)) ∙ sym (array_cmp c.in-Array-Array.a c.in-Array-Array.b) ∙ sym (λ i. val_cmp (c.in-Array-Array.is-0 i) (c.in-Array-Array.is-1 i))

pub cmp_val-returns-in_default : goal.cmp_val-returns-in_default
cmp_val-returns-in_default t c = elim c.in_default.branch [
  | cmp_val-in_default-via-in-Int+in_default w ↦ by_kinds c.args.left.now c.args.right.now (Int w.in_default.field-0-0) c.kind_of.result c.kind_of-in_default.result c.cmp-in_default.result c.cmp-in_default.ensures c.kind_of.ensures c.kind_of-in_default.ensures w.in_default.is-0 (int_apart w.in_default.field-0-0 c.args.right.now w.in_default.not-Int-1)
  | cmp_val-in_default-via-in-Str+in_default w ↦ by_kinds c.args.left.now c.args.right.now (Str w.in_default.field-0-0) c.kind_of.result c.kind_of-in_default.result c.cmp-in_default.result c.cmp-in_default.ensures c.kind_of.ensures c.kind_of-in_default.ensures w.in_default.is-0 (str_apart w.in_default.field-0-0 c.args.right.now w.in_default.not-Str-1)
  | cmp_val-in_default-via-in-Bool+in_default w ↦ by_kinds c.args.left.now c.args.right.now (val.Bool w.in_default.field-0-0) c.kind_of.result c.kind_of-in_default.result c.cmp-in_default.result c.cmp-in_default.ensures c.kind_of.ensures c.kind_of-in_default.ensures w.in_default.is-0 (bool_apart w.in_default.field-0-0 c.args.right.now w.in_default.not-Bool-1)
  | cmp_val-in_default-via-in-Id+in_default w ↦ by_kinds c.args.left.now c.args.right.now (Id w.in_default.field-0-0) c.kind_of.result c.kind_of-in_default.result c.cmp-in_default.result c.cmp-in_default.ensures c.kind_of.ensures c.kind_of-in_default.ensures w.in_default.is-0 (id_apart w.in_default.field-0-0 c.args.right.now w.in_default.not-Id-1)
  | cmp_val-in_default-via-in-Obj+in_default w ↦ by_kinds c.args.left.now c.args.right.now (Obj w.in_default.field-0-0) c.kind_of.result c.kind_of-in_default.result c.cmp-in_default.result c.cmp-in_default.ensures c.kind_of.ensures c.kind_of-in_default.ensures w.in_default.is-0 (obj_apart w.in_default.field-0-0 c.args.right.now w.in_default.not-Obj-1)
  | cmp_val-in_default-via-in-Tuple+in_default w ↦ by_kinds c.args.left.now c.args.right.now (Tuple w.in_default.field-0-0) c.kind_of.result c.kind_of-in_default.result c.cmp-in_default.result c.cmp-in_default.ensures c.kind_of.ensures c.kind_of-in_default.ensures w.in_default.is-0 (tuple_apart w.in_default.field-0-0 c.args.right.now w.in_default.not-Tuple-1)
  | cmp_val-in_default-via-in-Array+in_default w ↦ by_kinds c.args.left.now c.args.right.now (Array w.in_default.field-0-0) c.kind_of.result c.kind_of-in_default.result c.cmp-in_default.result c.cmp-in_default.ensures c.kind_of.ensures c.kind_of-in_default.ensures w.in_default.is-0 (array_apart w.in_default.field-0-0 c.args.right.now w.in_default.not-Array-1)
]

pub cmp_vals-returns-then-left-right : goal.cmp_vals-returns-then-left-right
cmp_vals-returns-then-left-right t c = ends_less c.args.left.now c.args.right.now c.loop-i.i c.loop-i.invariant.0 (omega arith) (omega arith)
