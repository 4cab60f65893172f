-- What a list of items comes to where all of it is looked at together.
use Rattle.std.specs.Prelude.{◌≡◌, List, true, false}
use Rattle.ev_value.specs.Item.{has_fault, faults, values}
use Rattle.ev_value.specs.declared.item.Item.{Item}
use Rattle.eql_sem.specs.declared.item.Settled.{Settled}
use Rattle.eql_sem.specs.declared.item.Settled.TheVariants as settled

-- its values where it has no fault, and else its faults
abbrev pub IsSettled : {A : Type 0} → Settled A → List (Item A) → Type 0
IsSettled (settled.Values vs) xs = (has_fault xs ≡ false) × (vs ≡ values xs)
IsSettled (settled.Faults es) xs = (has_fault xs ≡ true) × (es ≡ faults xs)
