-- Sums one number after the other.
use Rattle.std.proofs.Common.{◌≡◌, ℕ, suc, ◌+◌, ◌<◌, List, length, drop, get_or, ◌+ℤ◌, sym, ap, ◌∙◌, arith}
use Rattle.std.proofs.Math.Seq.{drop-cons}
use Rattle.ev_value.specs.declared.value.Val.{Val}
use Rattle.ev_list.specs.Aggregate.{total, number_of}

-- the sum from a value on is the value and the sum behind it
pub total_drop : (values : List Val) (i : ℕ) (v : Val) → i < length values → v ≡ get_or values i v → total (drop i values) ≡ number_of v +ℤ total (drop (i + 1) values)
total_drop values i v h is = ap total (drop-cons values i v h) ∙ (λ k. number_of (sym is k) +ℤ total (drop (one_more i k) values))
  where
    one_more : (n : ℕ) → suc n ≡ n + 1
    one_more n = omega arith
