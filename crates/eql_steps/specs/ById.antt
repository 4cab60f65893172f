-- Lists by id.
use Rattle.std.specs.Prelude.{ℕ, ◌==◌, List, [], ◌∷◌, ◌++◌, Option, Some, None, if◌then◌else◌}
use Rattle.std.specs.Ordering.{nat_cmp}
use Rattle.std.specs.BTreeMap as tree
use Rattle.eql_steps.specs.declared.by_id.ById.{ById}

abbrev pub if_listed : {A : Type 0} → Option (List A) → List A
if_listed None = []
if_listed (Some xs) = xs

-- the list of an id
abbrev pub by_id : {A : Type 0} → ById A → ℕ → List A
by_id m id = if_listed (tree.get nat_cmp m.lists id)

-- an empty list for each id
abbrev pub nothing : {A : Type 0} → ℕ → List A
nothing id = []

-- the same lists, once one more stands behind the list of an id
abbrev pub with_one : {A : Type 0} → (ℕ → List A) → ℕ → A → ℕ → List A
with_one lists id x q = if id == q then lists q ++ x ∷ [] else lists q
