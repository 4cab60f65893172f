-- Lists of items: what an expression gives, values and faults in their order.
use Rattle.std.specs.Prelude.{ℕ, Bool, true, false, List, [], ◌∷◌, ◌++◌, if◌then◌else◌}
use Rattle.ev_value.specs.declared.item.Fault.{Fault}
use Rattle.ev_value.specs.declared.item.Fault.TheVariants as fault
use Rattle.ev_value.specs.declared.item.Item.{Item}
use Rattle.ev_value.specs.declared.item.Item.TheVariants as item

-- the number that a fault is told by
abbrev pub fault_number : Fault → ℕ
fault_number fault.IntOverflow = 1
fault_number fault.DivisionByZero = 2
fault_number fault.CastText = 3
fault_number fault.AssertSingle = 4
fault_number fault.AssertExists = 5
fault_number fault.AssertDistinct = 6
fault_number fault.NegativeLimit = 7

-- what f gives for each value stands in that value's place; a fault stays where it stands
abbrev pub bind : {A B : Type 0} → List (Item A) → (A → List (Item B)) → List (Item B)
bind [] f = []
bind (item.Value a ∷ xs) f = f a ++ bind xs f
bind (item.Fault e ∷ xs) f = item.Fault e ∷ bind xs f

-- one value
abbrev pub one : {A : Type 0} → A → List (Item A)
one a = item.Value a ∷ []

-- values alone
abbrev pub all_of : {A : Type 0} → List A → List (Item A)
all_of [] = []
all_of (a ∷ more) = item.Value a ∷ all_of more

-- whether a fault stands in the list
abbrev pub has_fault : {A : Type 0} → List (Item A) → Bool
has_fault [] = false
has_fault (item.Value a ∷ xs) = has_fault xs
has_fault (item.Fault e ∷ xs) = true

-- the faults of a list, in their order
abbrev pub faults : {A : Type 0} → List (Item A) → List Fault
faults [] = []
faults (item.Value a ∷ xs) = faults xs
faults (item.Fault e ∷ xs) = e ∷ faults xs

-- the values of a list, in their order
abbrev pub values : {A : Type 0} → List (Item A) → List A
values [] = []
values (item.Value a ∷ xs) = a ∷ values xs
values (item.Fault e ∷ xs) = values xs

-- faults and nothing else
abbrev pub only_faults : {A : Type 0} → List Fault → List (Item A)
only_faults [] = []
only_faults (e ∷ more) = item.Fault e ∷ only_faults more

-- what f makes of all the values together; where the list has faults, these faults alone
abbrev pub collect : {A B : Type 0} → (List A → List (Item B)) → List (Item A) → List (Item B)
collect f xs = if has_fault xs then only_faults (faults xs) else f (values xs)

-- what f makes of each value of two lists; where the first list has faults, those of the second are told too
abbrev pub both : {A B C : Type 0} → List (Item A) → List (Item B) → (A → B → List (Item C)) → List (Item C)
both xs ys f = bind xs (λ a. bind ys (f a)) ++ (if has_fault xs then only_faults (faults ys) else [])

-- what P says of each value of a list
abbrev pub EachValue : {A : Type 0} → (A → Type 0) → List (Item A) → Type 0
EachValue P [] = Unit {0}
EachValue P (item.Value a ∷ xs) = P a × EachValue P xs
EachValue P (item.Fault e ∷ xs) = EachValue P xs
