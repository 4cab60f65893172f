-- The first fault of a list.
use Rattle.std.specs.Prelude.{List, [], ◌∷◌, Option, Some, None}
use Rattle.ev_value.specs.declared.item.Fault.{Fault}
use Rattle.ev_value.specs.declared.item.Item.{Item}
use Rattle.ev_value.specs.declared.item.Item.TheVariants as item

-- the fault that stands first, if there is one
abbrev pub first_fault : {A : Type 0} → List (Item A) → Option Fault
first_fault [] = None
first_fault (item.Value a ∷ xs) = first_fault xs
first_fault (item.Fault e ∷ xs) = Some e
