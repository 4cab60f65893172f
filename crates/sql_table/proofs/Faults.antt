-- An operator faults only where it is one on numbers.
use Rattle.std.proofs.Common.{◌≡◌, Bool, [], ◌∷◌, Option, Some, None, refl, ap, sym, ◌∙◌}
use Rattle.std.specs.Ordering.{is_eq, is_ne, is_lt, is_le, is_gt, is_ge}
use Rattle.ev_value.specs.Operator.{item_of_op}
use Rattle.ev_value.specs.Order.{val_cmp}
use Rattle.ev_value.specs.declared.item.Fault.{Fault}
use Rattle.ev_value.specs.declared.item.Item.TheVariants as item
use Rattle.ev_value.specs.declared.operator.Op.{Op}
use Rattle.ev_value.specs.declared.operator.Op.TheVariants as op
use Rattle.ev_value.specs.declared.value.Val as val
use Rattle.sql_ast.specs.declared.expression.BinaryOp.{BinaryOp}
use Rattle.sql_ast.specs.declared.expression.BinaryOp.TheVariants as binary
use Rattle.sql_ast.specs.declared.expression.UnaryOp.{UnaryOp}
use Rattle.sql_ast.specs.declared.expression.UnaryOp.TheVariants as unary
use Rattle.sql_table.specs.declared.cell.Cell.{Cell}
use Rattle.sql_table.specs.FaultLaws.{IsArithmetic, OnlyArithmeticFaults}
use Rattle.sql_table.specs.Operators.{strict, cell_item, value_of, unary_item, binary_item}

-- an operator that gives a bool for each two values
abbrev Tells : Op → Type 0
Tells o = (v w : val.Val) → (b : Bool) × (item_of_op o (v ∷ w ∷ []) ≡ item.Value (val.Bool b))

never : (o : Op) (p q : Option val.Val) (e : Fault) → Tells o → strict p (λ v. strict q (λ w. cell_item (item_of_op o (v ∷ w ∷ [])))) ≡ item.Fault e → ⊥
never o None q e tells h = cc h
never o (Some v) None e tells h = cc h
never o (Some v) (Some w) e tells h = let told : cell_item (item.Value (val.Bool (tells v w).0)) ≡ item.Fault e = sym (ap cell_item (tells v w).1) ∙ h in cc told

prefixed : (operator : UnaryOp) (x : Cell) (e : Fault) → unary_item operator x ≡ item.Fault e → operator ≡ unary.Neg
prefixed unary.Neg x e h = refl
prefixed unary.Not x e h = absurd (cc h)
prefixed unary.IsNull x e h = absurd (cc h)
prefixed unary.IsNotNull x e h = absurd (cc h)

between : (operator : BinaryOp) (x y : Cell) (e : Fault) → binary_item operator x y ≡ item.Fault e → IsArithmetic operator
between binary.Or x y e h = cc h
between binary.And x y e h = cc h
between binary.Eq x y e h = never op.Eq (value_of x) (value_of y) e (λ v w. (is_eq (val_cmp v w), refl)) h
between binary.Ne x y e h = never op.Ne (value_of x) (value_of y) e (λ v w. (is_ne (val_cmp v w), refl)) h
between binary.Lt x y e h = never op.Lt (value_of x) (value_of y) e (λ v w. (is_lt (val_cmp v w), refl)) h
between binary.Le x y e h = never op.Le (value_of x) (value_of y) e (λ v w. (is_le (val_cmp v w), refl)) h
between binary.Gt x y e h = never op.Gt (value_of x) (value_of y) e (λ v w. (is_gt (val_cmp v w), refl)) h
between binary.Ge x y e h = never op.Ge (value_of x) (value_of y) e (λ v w. (is_ge (val_cmp v w), refl)) h
between binary.Add x y e h = tt
between binary.Sub x y e h = tt
between binary.Concat x y e h = cc h
between binary.Mul x y e h = tt
between binary.FloorDiv x y e h = tt
between binary.Mod x y e h = tt

pub only_arithmetic : OnlyArithmeticFaults
only_arithmetic = record { prefixed = prefixed; between = between }
