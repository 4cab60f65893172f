-- What operators and functions make of the lists of their operands.
use Rattle.std.specs.Prelude.{Bool, true, false, not, List, [], ◌∷◌, map, Option, Some, None, if◌then◌else◌}
use Rattle.std.specs.List.{list_any}
use Rattle.std.specs.Ordering.{is_eq}
use Rattle.ev_value.specs.Item.{bind, both, one, all_of, collect, has_fault, faults, only_faults}
use Rattle.ev_value.specs.Operator.{item_of_op, bool_item}
use Rattle.ev_value.specs.Casts.{item_of_cast}
use Rattle.ev_value.specs.Order.{val_cmp}
use Rattle.ev_value.specs.declared.item.Fault.{Fault}
use Rattle.ev_value.specs.declared.item.Item.{Item}
use Rattle.ev_value.specs.declared.item.Item.TheVariants as item
use Rattle.ev_value.specs.declared.operator.Op.{Op}
use Rattle.ev_value.specs.declared.value.ScalarTy.{ScalarTy}
use Rattle.ev_value.specs.declared.value.Val.{Val}
use Rattle.ev_value.specs.declared.value.Val as value
use Rattle.ev_value.specs.declared.value.Val.TheVariants as made
use Rattle.ev_list.specs.Aggregate.{count_item, sum_item, least, greatest, any_item, all_item, is_true}
use Rattle.ev_list.specs.Occurrence.{distinct}
use Rattle.ev_list.specs.Single.{single_fault, exists_fault, distinct_fault}
use Rattle.core_ir.specs.declared.tree.SetFunction.{SetFunction}
use Rattle.core_ir.specs.declared.tree.SetFunction.TheVariants as function
use Rattle.eql_sem.specs.declared.form.Form.TheVariants as form
use Rattle.eql_sem.specs.declared.form.Formed.{Formed}

-- One value of each list, the last list fastest. A fault stands where it came up, and the lists to its right are not
-- looked at then.
abbrev pub product : {A : Type 0} → List (List (Item A)) → List (Item (List A))
product [] = one []
product (xs ∷ more) = bind xs (λ x. bind (product more) (λ rest. one (x ∷ rest)))

-- One value of each list, the last list fastest; the faults of all lists where there are some.
abbrev pub gathered : {A : Type 0} → List (List (Item A)) → List (Item (List A))
gathered [] = one []
gathered (xs ∷ more) = both xs (gathered more) (λ x rest. one (x ∷ rest))

-- the faults of a second list, where the first one has some
abbrev pub later_faults : {A B C : Type 0} → List (Item A) → List (Item B) → List (Item C)
later_faults xs ys = if has_fault xs then only_faults (faults ys) else []

-- an operator or a plain function
abbrev pub operated : Op → List (List (Item Val)) → List (Item Val)
operated op operands = bind (product operands) (λ vs. item_of_op op vs ∷ [])

abbrev pub cast_to : ScalarTy → List (Item Val) → List (Item Val)
cast_to ty xs = bind xs (λ v. item_of_cast ty v ∷ [])

-- the tuple of some values, with the tuple of their forms
abbrev pub tuple_of : List Formed → Formed
tuple_of xs = record { value = made.Tuple (map (λ x. x.value) xs); form = form.Tuple (map (λ x. x.form) xs) }

-- the tuples of the components' items
abbrev pub tupled : List (List (Item Formed)) → List (Item Formed)
tupled components = bind (product components) (λ xs. one (tuple_of xs))

-- the arrays of the elements' values, one of each list
abbrev pub arrayed : List (List (Item Val)) → List (Item Val)
arrayed elements = bind (product elements) (λ vs. one (made.Array vs))

-- the values of a row, in their order
abbrev pub values_in_row : {m : _} → value.Row_of-Val m → List Val
values_in_row value.end_of-Val = []
values_in_row (value.more_of-Val v rest) = v ∷ values_in_row rest

-- the elements of an array, in their order; other values have none
unfoldable pub elements_of : Val → List Val
elements_of (value.Array' _ elements) = values_in_row elements
elements_of _ = []

-- the elements of each array in turn
abbrev pub unpacked : List (Item Val) → List (Item Val)
unpacked xs = bind xs (λ v. all_of (elements_of v))

-- the truth itself, or its opposite
abbrev pub turned : Bool → Bool → Bool
turned negated b = if negated then not b else b

abbrev pub same : Val → Val → Bool
same v w = is_eq (val_cmp v w)

-- what is there, or one empty place where nothing is
abbrev pub or_empty : List (Item Val) → List (Item (Option Val))
or_empty [] = one None
or_empty (x ∷ xs) = bind (x ∷ xs) (λ v. one (Some v))

-- two empty places are the same, and an empty place is not the same as a value
abbrev pub same_place : Option Val → Option Val → Bool
same_place None None = true
same_place (Some v) (Some w) = same v w
same_place _ _ = false

-- one place of the left operand against each of the right one
abbrev pub equal_places : Bool → Option Val → List (Item (Option Val)) → List (Item Val)
equal_places negated x right = bind right (λ y. bool_item (turned negated (same_place x y)) ∷ [])

-- `?=` and `?!=`
abbrev pub optional_equal : Bool → List (Item Val) → List (Item Val) → List (Item Val)
optional_equal negated left right =
    bind (or_empty left) (λ x. equal_places negated x (or_empty right))

-- of each item whether it is among the values
abbrev pub member_items : Bool → List (Item Val) → List Val → List (Item Val)
member_items negated left vs = bind left (λ x. bool_item (turned negated (list_any (same x) vs)) ∷ [])

-- `in` and `not in`: the faults of the set alone where it has some
abbrev pub in_set : Bool → List (Item Val) → List (Item Val) → List (Item Val)
in_set negated left set = collect (member_items negated left) set

-- a value where there is one
abbrev pub optional : Option Val → List (Item Val)
optional (Some v) = one v
optional None = []

-- the values, or the fault that is told in their place
abbrev pub asserted : Option Fault → List Val → List (Item Val)
asserted (Some e) vs = item.Fault e ∷ []
asserted None vs = all_of vs

abbrev pub is_empty : {A : Type 0} → List A → Bool
is_empty [] = true
is_empty (x ∷ xs) = false

-- what a function makes of all the values of its set
abbrev pub of_values : SetFunction → List Val → List (Item Val)
of_values function.Count vs = count_item vs ∷ []
of_values function.Sum vs = sum_item vs ∷ []
of_values function.Min vs = optional (least vs)
of_values function.Max vs = optional (greatest vs)
of_values function.Any vs = any_item vs ∷ []
of_values function.All vs = all_item vs ∷ []
of_values function.Exists vs = bool_item (not (is_empty vs)) ∷ []
of_values function.Distinct vs = all_of (distinct same vs)
of_values function.AssertSingle vs = asserted (single_fault vs) vs
of_values function.AssertExists vs = asserted (exists_fault vs) vs
of_values function.AssertDistinct vs = asserted (distinct_fault same vs) vs
of_values function.ArrayAgg vs = one (made.Array vs)

-- a function of a set: the faults of the set alone where it has some
abbrev pub of_set : SetFunction → List (Item Val) → List (Item Val)
of_set f xs = collect (of_values f) xs

-- `??`: the second list where the first is empty, and only there
abbrev pub coalesced : List (Item Val) → List (Item Val) → List (Item Val)
coalesced first second = collect (λ vs. if is_empty vs then second else all_of vs) first

-- for each truth the list of one branch, and only that one's
abbrev pub branch_items : List Val → List (Item Val) → List (Item Val) → List (Item Val)
branch_items cs value other = bind (all_of cs) (λ c. if is_true c then value else other)

-- `if`: for each item of the condition the list of one branch, and only that one's
abbrev pub chosen : List (Item Val) → List (Item Val) → List (Item Val) → List (Item Val)
chosen condition value other = collect (λ cs. branch_items cs value other) condition
