-- What is made of all elements of a list.
use Rattle.std.specs.Prelude.{Bool, false, List, [], ◌∷◌, length, ℤ, pos, ◌+ℤ◌, Option, Some, None, if◌then◌else◌}
use Rattle.std.specs.List.{list_any, list_all}
use Rattle.std.specs.Ordering.{is_gt, is_lt}
use Rattle.ev_value.specs.Operator.{int_item, bool_item}
use Rattle.ev_value.specs.Order.{val_cmp}
use Rattle.ev_value.specs.declared.item.Item.{Item}
use Rattle.ev_value.specs.declared.value.Val.{Val}
use Rattle.ev_value.specs.declared.value.Val as val

-- how many elements there are
abbrev pub count_item : {A : Type 0} → List A → Item Val
count_item xs = int_item (pos (length xs))

-- the number that a value is; other values count nothing
abbrev pub number_of : Val → ℤ
number_of (val.Int z) = z
number_of _ = pos 0

-- the sum of whole numbers, without bounds
abbrev pub total : List Val → ℤ
total [] = pos 0
total (v ∷ vs) = number_of v +ℤ total vs

-- the sum as a value, or a fault where it needs more than 64 bits
abbrev pub sum_item : List Val → Item Val
sum_item vs = int_item (total vs)

abbrev pub lesser : Val → Val → Val
lesser v w = if is_gt (val_cmp v w) then w else v

abbrev pub greater : Val → Val → Val
greater v w = if is_lt (val_cmp v w) then w else v

-- a value and what is made of the values behind it
abbrev pub with_rest : (Val → Val → Val) → Val → Option Val → Option Val
with_rest f v None = Some v
with_rest f v (Some w) = Some (f v w)

-- the least value, if there is a value
abbrev pub least : List Val → Option Val
least [] = None
least (v ∷ vs) = with_rest lesser v (least vs)

-- the greatest value, if there is a value
abbrev pub greatest : List Val → Option Val
greatest [] = None
greatest (v ∷ vs) = with_rest greater v (greatest vs)

-- whether a value is true
abbrev pub is_true : Val → Bool
is_true (val.Bool b) = b
is_true _ = false

-- whether some value is true; whether each is
abbrev pub any_item : List Val → Item Val
any_item vs = bool_item (list_any is_true vs)

abbrev pub all_item : List Val → Item Val
all_item vs = bool_item (list_all is_true vs)
