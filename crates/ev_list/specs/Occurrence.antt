-- Each element once.
use Rattle.std.specs.Prelude.{Bool, false, not, ◌||◌, List, [], ◌∷◌, filter}
use Rattle.std.specs.List.{list_any}

-- the elements that are not the same as x
abbrev pub without : {A : Type 0} → (A → A → Bool) → A → List A → List A
without same x xs = filter (λ y. not (same x y)) xs

-- the first occurrence of each element, where it stands
abbrev pub distinct : {A : Type 0} → (A → A → Bool) → List A → List A
distinct same [] = []
distinct same (x ∷ xs) = x ∷ without same x (distinct same xs)

-- whether some element occurs twice
abbrev pub has_repeat : {A : Type 0} → (A → A → Bool) → List A → Bool
has_repeat same [] = false
has_repeat same (x ∷ xs) = list_any (same x) xs || has_repeat same xs
