-- What is asserted of a list.
use Rattle.std.specs.Prelude.{Bool, List, [], ◌∷◌, Option, Some, None, if◌then◌else◌}
use Rattle.ev_value.specs.declared.item.Fault.{Fault}
use Rattle.ev_value.specs.declared.item.Fault.TheVariants as fault
use Rattle.ev_list.specs.Occurrence.{has_repeat}

-- the fault of a list that is to have at most one element
abbrev pub single_fault : {A : Type 0} → List A → Option Fault
single_fault (x ∷ y ∷ more) = Some fault.AssertSingle
single_fault _ = None

-- the fault of a list that is to have an element
abbrev pub exists_fault : {A : Type 0} → List A → Option Fault
exists_fault [] = Some fault.AssertExists
exists_fault (x ∷ more) = None

-- the fault of a list that is to have no element twice
abbrev pub distinct_fault : {A : Type 0} → (A → A → Bool) → List A → Option Fault
distinct_fault same xs = if has_repeat same xs then Some fault.AssertDistinct else None
