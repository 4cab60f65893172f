-- Division of whole numbers, rounded down.
use Rattle.std.specs.Prelude.{◌≡◌, ◌≢◌, ℕ, suc, ◌-◌, ◌/◌, ◌%◌, ℤ, pos, negsuc, neg_ℤ, ◌+ℤ◌, ◌*ℤ◌, ◌≤ℤ◌, ◌<ℤ◌}

-- a over the natural number n, rounded down
abbrev pub over : ℤ → ℕ → ℤ
over (pos a) n = pos (a / n)
over (negsuc a) n = negsuc (a / n)

-- what is left of a beside n times that
abbrev pub left : ℤ → ℕ → ℕ
left (pos a) n = a % n
left (negsuc a) n = n - 1 - a % n

-- a over b, rounded down
abbrev pub floor_quotient : ℤ → ℤ → ℤ
floor_quotient a (pos n) = over a n
floor_quotient a (negsuc n) = over (neg_ℤ a) (suc n)

-- what is left of a beside b times that
abbrev pub floor_rest : ℤ → ℤ → ℤ
floor_rest a (pos n) = pos (left a n)
floor_rest a (negsuc n) = neg_ℤ (pos (left (neg_ℤ a) (suc n)))

-- from zero up or down to b, and not b
abbrev pub IsShortOf : ℤ → ℤ → Type 0
IsShortOf (pos n) r = (pos 0 ≤ℤ r) × (r <ℤ pos n)
IsShortOf (negsuc n) r = (negsuc n <ℤ r) × (r ≤ℤ pos 0)

-- a is b times q and a rest that is short of b
pub record IsFloorDivision (a b q r : ℤ) : Type 0 where
  pub whole : a ≡ b *ℤ q +ℤ r
  pub short : IsShortOf b r

-- the quotient and the rest are these, and no others are
pub record FloorDivides : Type 0 where
  pub divides : (a b : ℤ) → b ≢ pos 0 → IsFloorDivision a b (floor_quotient a b) (floor_rest a b)
  pub alone : (a b q r : ℤ) → b ≢ pos 0 → IsFloorDivision a b q r → (q ≡ floor_quotient a b) × (r ≡ floor_rest a b)
