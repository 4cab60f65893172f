-- What an operator gives for the values of its operands.
use Rattle.std.specs.Prelude.{ℕ, ◌^◌, ◌≡◌, Bool, not, ◌&&◌, ◌||◌, List, [], ◌∷◌, ◌++◌, length, if◌then◌else◌, ℤ, pos, negsuc, neg_ℤ, ◌+ℤ◌, ◌-ℤ◌, ◌*ℤ◌, nat_lt, Option, Some, None, Result, Ok, Err}
use Rattle.std.specs.declared.cmp.Ordering.{Ordering}
use Rattle.std.specs.Ordering.{int_eq, is_eq, is_ne, is_lt, is_le, is_gt, is_ge}
use Rattle.std.specs.Str.{chars}
use Rattle.ev_value.specs.Division.{floor_quotient, floor_rest}
use Rattle.ev_value.specs.Order.{val_cmp}
use Rattle.ev_value.specs.declared.item.Fault.TheVariants as fault
use Rattle.ev_value.specs.declared.item.Item.{Item}
use Rattle.ev_value.specs.declared.item.Item.TheVariants as item
use Rattle.ev_value.specs.declared.operator.Op.{Op}
use Rattle.ev_value.specs.declared.operator.Op.TheVariants as op
use Rattle.ev_value.specs.declared.operator.OpError.{OpError}
use Rattle.ev_value.specs.declared.operator.OpError.TheVariants as op_error
use Rattle.ev_value.specs.declared.value.Val.{Val}
use Rattle.ev_value.specs.declared.value.Val as val

-- whether a whole number is one of 64 bits with a sign
abbrev pub is_int64 : ℤ → Bool
is_int64 (pos n) = nat_lt n (2 ^ 63)
is_int64 (negsuc n) = nat_lt n (2 ^ 63)

-- the number as a value, or a fault where it needs more than 64 bits
abbrev pub int_item : ℤ → Item Val
int_item z = if is_int64 z then item.Value (val.Int z) else item.Fault fault.IntOverflow

abbrev pub bool_item : Bool → Item Val
bool_item b = item.Value (val.Bool b)

-- what is told for operands of other kinds or in another number, which no query that has types asks
abbrev pub unfit : Item Val
unfit = item.Fault fault.IntOverflow

-- what f gives for the operands, where they fit
abbrev pub fitting : {A : Type 0} → Option A → (A → Item Val) → Item Val
fitting None f = unfit
fitting (Some a) f = f a

-- the operands, where they are a number, two numbers, a text and so on
abbrev pub number_in : List Val → Option ℤ
number_in (val.Int a ∷ []) = Some a
number_in _ = None

abbrev pub numbers_in : List Val → Option (ℤ × ℤ)
numbers_in (val.Int a ∷ val.Int b ∷ []) = Some (a, b)
numbers_in _ = None

abbrev pub text_in : List Val → Option (List ℕ)
text_in (val.Str s ∷ []) = Some s
text_in _ = None

abbrev pub texts_in : List Val → Option (List ℕ × List ℕ)
texts_in (val.Str s ∷ val.Str t ∷ []) = Some (s, t)
texts_in _ = None

abbrev pub truth_in : List Val → Option Bool
truth_in (val.Bool a ∷ []) = Some a
truth_in _ = None

abbrev pub truths_in : List Val → Option (Bool × Bool)
truths_in (val.Bool a ∷ val.Bool b ∷ []) = Some (a, b)
truths_in _ = None

-- how two operands are ordered
abbrev pub order_in : List Val → Option Ordering
order_in (v ∷ w ∷ []) = Some (val_cmp v w)
order_in _ = None

-- a fault where the divisor is zero
abbrev pub divided : ℤ → Item Val → Item Val
divided divisor due = if int_eq divisor (pos 0) then item.Fault fault.DivisionByZero else due

-- what an operator gives for the values of its operands, in the order of the text
abbrev pub item_of_op : Op → List Val → Item Val
item_of_op op.Add vs = fitting (numbers_in vs) (λ (a, b). int_item (a +ℤ b))
item_of_op op.Sub vs = fitting (numbers_in vs) (λ (a, b). int_item (a -ℤ b))
item_of_op op.Mul vs = fitting (numbers_in vs) (λ (a, b). int_item (a *ℤ b))
item_of_op op.FloorDiv vs = fitting (numbers_in vs) (λ (a, b). divided b (int_item (floor_quotient a b)))
item_of_op op.Mod vs = fitting (numbers_in vs) (λ (a, b). divided b (item.Value (val.Int (floor_rest a b))))
item_of_op op.Neg vs = fitting (number_in vs) (λ a. int_item (neg_ℤ a))
item_of_op op.Concat vs = fitting (texts_in vs) (λ (s, t). item.Value (val.Str (s ++ t)))
item_of_op op.Len vs = fitting (text_in vs) (λ s. int_item (pos (length (chars s))))
item_of_op op.Eq vs = fitting (order_in vs) (λ o. bool_item (is_eq o))
item_of_op op.Ne vs = fitting (order_in vs) (λ o. bool_item (is_ne o))
item_of_op op.Lt vs = fitting (order_in vs) (λ o. bool_item (is_lt o))
item_of_op op.Le vs = fitting (order_in vs) (λ o. bool_item (is_le o))
item_of_op op.Gt vs = fitting (order_in vs) (λ o. bool_item (is_gt o))
item_of_op op.Ge vs = fitting (order_in vs) (λ o. bool_item (is_ge o))
item_of_op op.And vs = fitting (truths_in vs) (λ (a, b). bool_item (a && b))
item_of_op op.Or vs = fitting (truths_in vs) (λ (a, b). bool_item (a || b))
item_of_op op.Not vs = fitting (truth_in vs) (λ a. bool_item (not a))

-- an item that is a text, the one kind of value that takes memory
abbrev pub IsText : Item Val → Type 0
IsText (item.Value (val.Str s)) = Unit {0}
IsText _ = ⊥

-- a call of an operator answers the item that is due, and may want memory only where that is a text
abbrev pub IsGiven : Result Val OpError → Item Val → Type 0
IsGiven (Ok v) due = due ≡ item.Value v
IsGiven (Err (op_error.Fault e)) due = due ≡ item.Fault e
IsGiven (Err op_error.Memory) due = IsText due

-- a look at the operands finds what is there, or tells that they do not fit
abbrev pub IsFound : {A : Type 0} → Result A OpError → Option A → Type 0
IsFound (Ok a) found = found ≡ Some a
IsFound (Err e) found = (found ≡ None) × (e ≡ op_error.Fault fault.IntOverflow)

-- a number that was tried in 64 bits, or a fault
abbrev pub tried : Option ℤ → Item Val
tried (Some z) = item.Value (val.Int z)
tried None = item.Fault fault.IntOverflow
