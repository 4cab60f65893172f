-- The search for the types that a type extends.
use Rattle.std.specs.Prelude.{◌≡◌, ◌⊎◌, ◌<◌, ℕ, suc, ◌+◌, Bool, true, false, List, [], ◌∷◌, ◌++◌, length, replicate, Option, Some, None, slice_get, slice_set}
use Rattle.std.specs.List.{Contains}
use Rattle.core_ir.specs.declared.path.TypeId.{TypeId}
use Rattle.schema_build.specs.Lineage.{IsBase, Extends}
use Rattle.schema_build.specs.declared.lineage.Search.{Search}

-- each base has a number below that of the types
abbrev pub AreWithin : List (List TypeId) → Type 0
AreWithin bases = (a b : TypeId) → IsBase bases a b → b.0 < length bases

-- a type is found
abbrev pub IsFound : List Bool → TypeId → Type 0
IsFound found t = slice_get found t.0 ≡ Some true

-- a search over so many types that has found none
abbrev pub none_found : ℕ → Search
none_found count = record { found = replicate count false; pending = [] }

-- whether there is such a type and its mark says that it is not found
abbrev pub says_missing : Option Bool → Bool
says_missing None = false
says_missing (Some true) = false
says_missing (Some false) = true

-- a type of the list is not found
abbrev pub is_missing : List Bool → ℕ → Bool
is_missing found n = says_missing (slice_get found n)

-- a search that notes a type, if it was missing
abbrev pub noted_if : Bool → Search → TypeId → Search
noted_if true s t = record { found = slice_set s.found t.0 true; pending = s.pending ++ t ∷ [] }
noted_if false s t = s

-- A type that was not found is found and pending.
abbrev pub noted : Search → TypeId → Search
noted s t = noted_if (is_missing s.found t.0) s t

-- a search that notes some types, one after the other
abbrev pub all_noted : Search → List TypeId → Search
all_noted s [] = s
all_noted s (t ∷ more) = all_noted (noted s t) more

-- the numbers of what is found, where the first of the list has the number n
abbrev pub found_from : ℕ → List Bool → List TypeId
found_from n [] = []
found_from n (true ∷ more) = record { 0 = n } ∷ found_from (suc n) more
found_from n (false ∷ more) = found_from (suc n) more

-- how many types are not found
abbrev pub missing : List Bool → ℕ
missing [] = 0
missing (true ∷ more) = missing more
missing (false ∷ more) = suc (missing more)

-- How far a search still goes: each type that is not found may become pending once, and each pending one is looked at once.
abbrev pub left_of : Search → ℕ
left_of s = missing s.found + missing s.found + length s.pending

-- What holds all along: what is found is extended, the bases of what is found and not pending are found, and so are those of the type itself.
pub record IsSearch (bases : List (List TypeId)) (t : TypeId) (s : Search) : Type 0 where
  pub sized : length s.found ≡ length bases
  pub sound : (b : TypeId) → IsFound s.found b → Extends bases t b
  pub waiting : (a : TypeId) → Contains s.pending a → IsFound s.found a
  pub closed : (a : TypeId) → IsFound s.found a → Contains s.pending a ⊎ ((b : TypeId) → IsBase bases a b → IsFound s.found b)
  pub begun : (b : TypeId) → IsBase bases t b → IsFound s.found b
