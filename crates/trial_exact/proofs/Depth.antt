-- What is read, and what is read in the next open part.
use Rattle.std.proofs.Common.{◌≡◌, ℕ, zero, suc, ◌-◌, ◌<◌, Bool, ap, refl, sym, arith}
use Rattle.trial_exact.specs.Readers.{levels, within, inside}

pub within_is : (high : ℕ → Bool) (n : ℕ) → within high n ≡ levels n high (inside high n)
unfolding within inside
within_is high zero = refl
within_is high (suc n) = refl

pub inside_is : (high : ℕ → Bool) (n : ℕ) → 0 < n → inside high n ≡ within high (n - 1)
unfolding inside
inside_is high zero h = absurd (omega arith)
inside_is high (suc n) h = let e : suc n - 1 ≡ n = omega arith in ap (within high) (sym e)
