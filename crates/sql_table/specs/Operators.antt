-- What operators, casts and functions give on cells.
use Rattle.std.specs.Prelude.{ℕ, suc, Bool, true, false, not, List, [], ◌∷◌, ◌++◌, ℤ, pos, Option, Some, None, slice_get, filter_map}
use Rattle.ev_value.specs.Casts.{item_of_cast}
use Rattle.ev_value.specs.Operator.{item_of_op}
use Rattle.ev_value.specs.declared.item.Fault.{Fault}
use Rattle.ev_value.specs.declared.item.Item.{Item}
use Rattle.ev_value.specs.declared.item.Item.TheVariants as item
use Rattle.ev_value.specs.declared.operator.Op.{Op}
use Rattle.ev_value.specs.declared.operator.Op.TheVariants as op
use Rattle.ev_value.specs.declared.value.Val as val
use Rattle.ev_list.specs.Aggregate.{count_item, sum_item, least, greatest, is_true, any_item, all_item}
use Rattle.ev_list.specs.Single.{single_fault, exists_fault, distinct_fault}
use Rattle.sql_ast.specs.declared.expression.BinaryOp.{BinaryOp}
use Rattle.sql_ast.specs.declared.expression.BinaryOp.TheVariants as binary
use Rattle.sql_ast.specs.declared.expression.Function.{Function}
use Rattle.sql_ast.specs.declared.expression.Function.TheVariants as function
use Rattle.sql_ast.specs.declared.expression.UnaryOp.{UnaryOp}
use Rattle.sql_ast.specs.declared.expression.UnaryOp.TheVariants as unary
use Rattle.sql_ast.specs.declared.ty.SqlTy.{SqlTy, Scalar}
use Rattle.sql_table.specs.declared.cell.Cell.{Cell, Null, Val, out-Cell}
use Rattle.sql_table.specs.declared.cell.Cell.TheOpen.{Cell-F}
use Rattle.sql_table.specs.declared.cell.Cell.TheVariants as cell
use Rattle.sql_table.specs.Same.{cell_same}

-- the value of a cell; null, a row and an array have none
abbrev pub value_of : Cell → Option val.Val
value_of (Val v) = Some v
value_of _ = None

-- the cell of a value; null where there is none
abbrev pub cell_of : Option val.Val → Cell
cell_of (Some v) = Val v
cell_of None = Null

-- an item of a value as an item of a cell
abbrev pub cell_item : Item val.Val → Item Cell
cell_item (item.Value v) = item.Value (Val v)
cell_item (item.Fault e) = item.Fault e

-- the cell that says whether something holds
abbrev pub truth_cell : Bool → Cell
truth_cell b = Val (val.Bool b)

-- what f makes of a value; null where there is none
abbrev pub strict : Option val.Val → (val.Val → Item Cell) → Item Cell
strict (Some v) f = f v
strict None f = item.Value Null

-- an operator on one value or two, which gives null where an operand has no value
abbrev pub on_one : Op → Cell → Item Cell
on_one o x = strict (value_of x) (λ v. cell_item (item_of_op o (v ∷ [])))

abbrev pub on_two : Op → Cell → Cell → Item Cell
on_two o x y = strict (value_of x) (λ v. strict (value_of y) (λ w. cell_item (item_of_op o (v ∷ w ∷ []))))

-- whether there is a value that is true
abbrev pub is_true_there : Option val.Val → Bool
is_true_there (Some v) = is_true v
is_true_there None = false

-- whether a cell is true: null is not
abbrev pub holds : Cell → Bool
holds x = is_true_there (value_of x)

-- whether a cell is null
abbrev pub is_null : Cell → Bool
is_null Null = true
is_null _ = false

-- the bool or the text that a value is; what is not there has none, and a value of another kind has none
abbrev pub bool_in : Option val.Val → Option Bool
bool_in (Some (val.Bool b)) = Some b
bool_in _ = None

abbrev pub text_in : Option val.Val → Option (List ℕ)
text_in (Some (val.Str s)) = Some s
text_in _ = None

-- the cell that says whether something holds; null where that is not known
abbrev pub known_truth : Option Bool → Cell
known_truth (Some b) = truth_cell b
known_truth None = Null

-- NOT of what is not known is not known
abbrev pub opposite : Option Bool → Option Bool
opposite (Some b) = Some (not b)
opposite None = None

-- AND is false where one side is false, and else true where both are known
abbrev pub both_truths : Option Bool → Option Bool → Option Bool
both_truths (Some true) right = right
both_truths (Some false) right = Some false
both_truths None (Some true) = None
both_truths None (Some false) = Some false
both_truths None None = None

-- OR is true where one side is true, and else false where both are known
abbrev pub either_truth : Option Bool → Option Bool → Option Bool
either_truth (Some true) right = Some true
either_truth (Some false) right = right
either_truth None (Some true) = Some true
either_truth None (Some false) = None
either_truth None None = None

-- NOT, AND and OR look at all of their operands and never fault: what is no bool is not known
abbrev pub not_item : Cell → Item Cell
not_item x = item.Value (known_truth (opposite (bool_in (value_of x))))

abbrev pub and_item : Cell → Cell → Item Cell
and_item x y = item.Value (known_truth (both_truths (bool_in (value_of x)) (bool_in (value_of y))))

abbrev pub or_item : Cell → Cell → Item Cell
or_item x y = item.Value (known_truth (either_truth (bool_in (value_of x)) (bool_in (value_of y))))

-- `||` gives one text behind the other, and null where one side is no text
abbrev pub joined : Option (List ℕ) → Option (List ℕ) → Cell
joined (Some s) (Some t) = Val (val.Str (s ++ t))
joined (Some s) None = Null
joined None right = Null

abbrev pub join_item : Cell → Cell → Item Cell
join_item x y = item.Value (joined (text_in (value_of x)) (text_in (value_of y)))

-- LEN counts the characters of a text, and gives null where there is none
abbrev pub counted_text : Option (List ℕ) → Item Cell
counted_text (Some s) = cell_item (item_of_op op.Len (val.Str s ∷ []))
counted_text None = item.Value Null

abbrev pub len_item : Cell → Item Cell
len_item x = counted_text (text_in (value_of x))

-- what an operator gives on a cell
abbrev pub unary_item : UnaryOp → Cell → Item Cell
unary_item unary.Neg x = on_one op.Neg x
unary_item unary.Not x = not_item x
unary_item unary.IsNull x = item.Value (truth_cell (is_null x))
unary_item unary.IsNotNull x = item.Value (truth_cell (not (is_null x)))

-- what an operator gives on two cells, the left one first
abbrev pub binary_item : BinaryOp → Cell → Cell → Item Cell
binary_item binary.Or x y = or_item x y
binary_item binary.And x y = and_item x y
binary_item binary.Eq x y = on_two op.Eq x y
binary_item binary.Ne x y = on_two op.Ne x y
binary_item binary.Lt x y = on_two op.Lt x y
binary_item binary.Le x y = on_two op.Le x y
binary_item binary.Gt x y = on_two op.Gt x y
binary_item binary.Ge x y = on_two op.Ge x y
binary_item binary.Add x y = on_two op.Add x y
binary_item binary.Sub x y = on_two op.Sub x y
binary_item binary.Concat x y = join_item x y
binary_item binary.Mul x y = on_two op.Mul x y
binary_item binary.FloorDiv x y = on_two op.FloorDiv x y
binary_item binary.Mod x y = on_two op.Mod x y

-- a cast to a scalar type; there are no others
abbrev pub cast_item : SqlTy → Cell → Item Cell
cast_item (Scalar ty) x = strict (value_of x) (λ v. cell_item (item_of_cast ty v))
cast_item _ x = item.Value Null

-- a cell, or null where there is none
abbrev pub or_null : Option Cell → Cell
or_null (Some c) = c
or_null None = Null

-- the parts of a row, where the cell is one
abbrev pub parts_in : Cell-F Cell → Option (List Cell)
parts_in (Cell-F.Row cs) = Some cs
parts_in _ = None

abbrev pub parts : Cell → Option (List Cell)
parts x = parts_in (out-Cell x)

-- the part with a number, from 1 on; null where there is none
abbrev pub part_among : ℤ → Option (List Cell) → Cell
part_among (pos (suc n)) (Some cs) = or_null (slice_get cs n)
part_among _ _ = Null

abbrev pub part : ℤ → Cell → Cell
part number x = part_among number (parts x)

-- the elements of an array, where the cell is one
abbrev pub elements_in : Cell-F Cell → Option (List Cell)
elements_in (Cell-F.Array cs) = Some cs
elements_in _ = None

abbrev pub elements : Cell → Option (List Cell)
elements x = elements_in (out-Cell x)

-- what f makes of the elements; null where there is no array
abbrev pub over : (List Cell → Item Cell) → Option (List Cell) → Item Cell
over f (Some cs) = f cs
over f None = item.Value Null

-- the values among the elements: nulls are passed over
abbrev pub present : List Cell → List val.Val
present cs = filter_map value_of cs

-- the array itself, or the fault of what was asserted of it
abbrev pub asserted : Option Fault → List Cell → Item Cell
asserted (Some e) cs = item.Fault e
asserted None cs = item.Value (cell.Array cs)

-- what a function gives on the elements of an array; LEN is none of these
abbrev pub over_cells : Function → List Cell → Item Cell
over_cells function.Len cs = item.Value Null
over_cells function.CountOf cs = cell_item (count_item cs)
over_cells function.SumOf cs = cell_item (sum_item (present cs))
over_cells function.MinOf cs = item.Value (cell_of (least (present cs)))
over_cells function.MaxOf cs = item.Value (cell_of (greatest (present cs)))
over_cells function.AnyOf cs = cell_item (any_item (present cs))
over_cells function.AllOf cs = cell_item (all_item (present cs))
over_cells function.AssertSingle cs = asserted (single_fault cs) cs
over_cells function.AssertExists cs = asserted (exists_fault cs) cs
over_cells function.AssertDistinct cs = asserted (distinct_fault cell_same cs) cs

-- what a function gives on a cell: LEN counts characters, the others go over the elements
abbrev pub function_item : Function → Cell → Item Cell
function_item function.Len x = len_item x
function_item called x = over (over_cells called) (elements x)
