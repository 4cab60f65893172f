-- How a tree is walked beside the places of its parts: the place of what is looked at is the first of a list.
use Rattle.std.specs.Prelude.{◌≡◌, ◌≤◌, ℕ, List, [], ◌∷◌, Contains, Option, Some, None}
use Rattle.sql_grammar.specs.declared.grown.Places as places
use Rattle.sql_grammar.specs.declared.grown.Places.{Places, Row_of-Places, items-the_row-Places}
use mathlib.Core.Former.{Count}

-- the places that stand in a row
abbrev pub listed : {m : Count} → Row_of-Places m → List Places
listed {m = m} row = items-the_row-Places m row

-- the byte at which the first begins
abbrev pub start : List Places → ℕ
start [] = 0
start (places.At' byte _ row ∷ more) = byte

-- the places of the parts of one
abbrev pub parts_of : Places → List Places
parts_of (places.At' byte _ row) = listed row

-- the places of the parts of the first
abbrev pub inner : List Places → List Places
inner [] = []
inner (p ∷ more) = parts_of p

-- the places behind the first
abbrev pub rest : List Places → List Places
rest [] = []
rest (p ∷ more) = more

-- the least of some bytes, and none exactly where there are none
abbrev pub IsLeast : Option ℕ → List ℕ → Type 0
IsLeast None bytes = bytes ≡ []
IsLeast (Some byte) bytes = Contains bytes byte × ((other : ℕ) → Contains bytes other → byte ≤ other)
