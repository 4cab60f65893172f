-- The rows of a select: filtered, ordered and cut, and then made into items.
use Rattle.std.specs.Prelude.{ℕ, Bool, true, false, List, [], ◌∷◌, Option, Some, None, if◌then◌else◌}
use Rattle.std.specs.List.{list_any}
use Rattle.ev_value.specs.Item.{bind, both, one, all_of, collect}
use Rattle.ev_value.specs.declared.item.Item.{Item}
use Rattle.ev_value.specs.declared.value.Val.{Val}
use Rattle.ev_list.specs.Aggregate.{is_true}
use Rattle.ev_list.specs.Cut.{limit_of, section}
use Rattle.ev_list.specs.Order.{in_order, keyless}
use Rattle.ev_list.specs.declared.order.KeyOrder.{KeyOrder}
use Rattle.ev_list.specs.declared.order.Keyed.{Keyed}
use Rattle.eql_sem.specs.declared.binding.Bound.{Bound}
use Rattle.eql_sem.specs.declared.form.Formed.{Formed}
use Rattle.eql_sem.specs.declared.row.Range.{Range}
use Rattle.eql_sem.specs.declared.row.Row.{Row}

abbrev pub head_of : {A : Type 0} → List A → Option A
head_of [] = None
head_of (x ∷ xs) = Some x

-- the first value, if there is one; the faults alone where the list has some
abbrev pub first_of : List (Item Val) → List (Item (Option Val))
first_of xs = collect (λ vs. one (head_of vs)) xs

-- what follows where a condition has a true item; the faults of the condition in its place
abbrev pub when : {X : Type 0} → List (Item Val) → List (Item X) → List (Item X)
when condition xs = bind (collect (λ vs. if list_any is_true vs then one tt else []) condition) (λ (u : Unit {0}). xs)

-- a row with each list of keys
abbrev pub keyed_rows : List Bound → Formed → List (Item (List (Option Val))) → List (Item (Keyed Row))
keyed_rows b x keys = bind keys (λ ks. one (record { keys = ks; value = record { now = b; item = x } }))

-- the rows of a list without their keys
abbrev pub plain_rows : List (Item (Keyed Row)) → List (Item Row)
plain_rows rows = bind rows (λ x. one x.value)

-- what is cut out of the rows in order; the faults alone where there are some
abbrev pub cut_rows : List KeyOrder → Option ℕ → Option ℕ → List (Item (Keyed Row)) → List (Item Row)
cut_rows orders o l rows = collect (λ xs. all_of (section o l (keyless (in_order orders xs)))) rows

-- how many rows an offset or a limit asks for: the number that its first value is, or the faults that it tells
abbrev pub counted : List (Item Val) → List (Item (Option ℕ))
counted xs = bind (first_of xs) (λ x. limit_of x ∷ [])

-- what follows for an offset and a limit: the faults of both where there are some, else what f makes of their numbers
abbrev pub ranged : List (Item Val) → List (Item Val) → (Option ℕ → Option ℕ → List (Item Formed)) → List (Item Formed)
ranged offset limit f = both (counted offset) (counted limit) f

-- what the numbers of an offset and of a limit ask for
abbrev pub range_of : Option ℕ → Option ℕ → List (Item Range)
range_of o l = one (record { offset = o; limit = l })

-- what the lists of an offset and of a limit ask for
abbrev pub ranges : List (Item Val) → List (Item Val) → List (Item Range)
ranges offset limit = both (counted offset) (counted limit) range_of

-- The rows that a statement leaves, without an order, an offset and a limit, or with some of them, and what is made of
-- each. In the second case the faults of offset and limit are the whole list; else the faults among rows and keys are;
-- else the rows are put in order and cut.
abbrev pub finished : Bool → List (Item Val) → List (Item Val) → List KeyOrder → List (Item (Keyed Row)) → (Row → List (Item Formed)) → List (Item Formed)
finished false offset limit orders rows made = bind (plain_rows rows) made
finished true offset limit orders rows made = ranged offset limit (λ o l. bind (cut_rows orders o l rows) made)
