-- The least byte at which something fails.
use Rattle.std.specs.Prelude.{ℕ, nat_lt, Bool, List, [], ◌∷◌, Option, Some, None, if◌then◌else◌}

-- the lesser of two bytes, as far as there are any
abbrev pub sooner : Option ℕ → Option ℕ → Option ℕ
sooner None b = b
sooner (Some a) None = Some a
sooner (Some a) (Some b) = if nat_lt b a then Some b else Some a

-- a byte, where something fails there
abbrev pub at_if : Bool → ℕ → Option ℕ
at_if fails byte = if fails then Some byte else None

-- the least of the bytes at which elements fail
abbrev pub least_of : {A : Type 0} → (A → Option ℕ) → List A → Option ℕ
least_of fails [] = None
least_of fails (x ∷ more) = sooner (fails x) (least_of fails more)
