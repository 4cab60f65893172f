-- Which operators can fault on cells.
use Rattle.std.specs.Prelude.{◌≡◌}
use Rattle.ev_value.specs.declared.item.Fault.{Fault}
use Rattle.ev_value.specs.declared.item.Item.TheVariants as item
use Rattle.sql_ast.specs.declared.expression.BinaryOp.{BinaryOp}
use Rattle.sql_ast.specs.declared.expression.BinaryOp.TheVariants as binary
use Rattle.sql_ast.specs.declared.expression.UnaryOp.{UnaryOp}
use Rattle.sql_ast.specs.declared.expression.UnaryOp.TheVariants as unary
use Rattle.sql_table.specs.declared.cell.Cell.{Cell}
use Rattle.sql_table.specs.Operators.{unary_item, binary_item}

-- the operators between numbers
abbrev pub IsArithmetic : BinaryOp → Type 0
IsArithmetic binary.Or = ⊥
IsArithmetic binary.And = ⊥
IsArithmetic binary.Eq = ⊥
IsArithmetic binary.Ne = ⊥
IsArithmetic binary.Lt = ⊥
IsArithmetic binary.Le = ⊥
IsArithmetic binary.Gt = ⊥
IsArithmetic binary.Ge = ⊥
IsArithmetic binary.Add = Unit {0}
IsArithmetic binary.Sub = Unit {0}
IsArithmetic binary.Concat = ⊥
IsArithmetic binary.Mul = Unit {0}
IsArithmetic binary.FloorDiv = Unit {0}
IsArithmetic binary.Mod = Unit {0}

-- Whatever cells stand beside it, an operator faults only where it is one on numbers.
pub record OnlyArithmeticFaults : Type 0 where
  pub prefixed : (operator : UnaryOp) (x : Cell) (e : Fault) → unary_item operator x ≡ item.Fault e → operator ≡ unary.Neg
  pub between : (operator : BinaryOp) (x y : Cell) (e : Fault) → binary_item operator x y ≡ item.Fault e → IsArithmetic operator
