-- Counts that stop at the greatest number of 64 bits.
use Rattle.std.specs.Prelude.{ℕ, ◌+◌, ◌-◌, ◌^◌, ◌≤◌, min}

-- where every count stops
abbrev pub most_counted : ℕ
most_counted = 2 ^ 64 - 1

-- the count after so many more
abbrev pub counted : ℕ → ℕ → ℕ
counted more before = min (before + more) most_counted

-- a count rose, or stands at its end
abbrev pub Rose : ℕ → ℕ → Type 0
Rose before after = counted 1 before ≤ after
