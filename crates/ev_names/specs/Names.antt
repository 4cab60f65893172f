-- Places of names in a list.
use Rattle.std.specs.Prelude.{◌≡◌, ℕ, suc, Bool, List, [], ◌∷◌, is_some, option_map, Option, Some, None, if◌then◌else◌}
use Rattle.std.specs.BTreeMap.{BTreeMap}
use Rattle.std.specs.BTreeMap as tree
use Rattle.std.specs.Cmp.Lexicographic.{slice_cmp}
use Rattle.std.specs.Ordering.{nat_cmp}
use Rattle.std.specs.Str.{bytes_eq}

-- the first place of a name
abbrev pub place_of : List ℕ → List (List ℕ) → Option ℕ
place_of name [] = None
place_of name (n ∷ more) = if bytes_eq n name then Some 0 else option_map suc (place_of name more)

-- a name that has a place among some
abbrev pub is_among : List ℕ → List (List ℕ) → Bool
is_among name names = is_some (place_of name names)

-- the map finds the first place of each name
abbrev pub FindsFirst : BTreeMap (List ℕ) ℕ → List (List ℕ) → Type 0
FindsFirst m names = (name : List ℕ) → tree.get (slice_cmp nat_cmp) m name ≡ place_of name names
