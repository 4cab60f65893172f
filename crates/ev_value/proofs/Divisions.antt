-- Division rounded down: the quotient and the rest exist and are the only ones.
use Rattle.std.proofs.Common.{◌≡◌, ◌≢◌, ℕ, zero, suc, ◌+◌, ◌-◌, ◌*◌, ◌/◌, ◌%◌, ◌<◌, ◌≤◌, ◌^◌, ℤ, pos, negsuc, ◌+ℤ◌, ◌-ℤ◌, ◌*ℤ◌, ◌≤ℤ◌, ◌<ℤ◌, to_z, of_z, refl, sym, ap, ◌∙◌, subst, arith}
use Rattle.std.proofs.Math.IntN.{neg_ℤ, pos-*ℤ-pos, pos-*ℤ-negsuc, negsuc-*ℤ-pos, negsuc-*ℤ-negsuc}
use Rattle.std.proofs.Math.Nat.{mul-suc, mul_comm}
use Rattle.std.proofs.lemmas.Nat.{div-mul-add, mod-mul-add}
use Rattle.std.proofs.lemmas.Int.{ints}
use Rattle.std.specs.Int.{w64, w128, int_rem_euclid}
use Rattle.std.specs.Prelude.{FitsSigned, unsigned_abs}
use Rattle.ev_value.specs.Division.{over, left, floor_quotient, floor_rest, IsFloorDivision, FloorDivides}

pub left_below : (a : ℤ) (n : ℕ) → 0 < n → left a n < n
left_below (pos a) n h = omega arith
left_below (negsuc a) n h = omega arith

over_whole : (a : ℤ) (n : ℕ) → 0 < n → a ≡ pos n *ℤ over a n +ℤ pos (left a n)
over_whole (pos a) n h =
    let whole : n * (a / n) + a % n ≡ a = omega arith in
    sym (ap (λ z. z +ℤ pos (a % n)) (pos-*ℤ-pos n (a / n)) ∙ ap pos whole)
over_whole (negsuc a) n h =
    let whole : n * (a / n) + a % n ≡ a = omega arith in
    let product : n * suc (a / n) ≡ n * (a / n) + n = mul-suc n (a / n) in
    let sum : neg_ℤ (pos (n * suc (a / n))) +ℤ pos (n - 1 - a % n) ≡ negsuc a = omega (arith, ints) in
    sym (ap (λ z. z +ℤ pos (n - 1 - a % n)) (pos-*ℤ-negsuc n (a / n)) ∙ sum)

alone_over : (a q : ℤ) (n s : ℕ) → s < n → a ≡ pos n *ℤ q +ℤ pos s → (q ≡ over a n) × (s ≡ left a n)
alone_over a (pos k) n s h e =
    let is : a ≡ pos (k * n + s) = e ∙ ap (λ z. z +ℤ pos s) (pos-*ℤ-pos n k) ∙ ap (λ m. pos (m + s)) (mul_comm n k) in
    (ap pos (sym (div-mul-add k n s h)) ∙ ap (λ z. over z n) (sym is), sym (mod-mul-add k n s h) ∙ ap (λ z. left z n) (sym is))
alone_over a (negsuc k) n s h e =
    let t : ℕ = n - 1 - s in
    let below : t < n = omega arith in
    let product : n * suc k ≡ k * n + n = mul-suc n k ∙ ap (λ m. m + n) (mul_comm n k) in
    let sum : neg_ℤ (pos (n * suc k)) +ℤ pos s ≡ negsuc (k * n + t) = omega (arith, ints) in
    let is : a ≡ negsuc (k * n + t) = e ∙ ap (λ z. z +ℤ pos s) (pos-*ℤ-negsuc n k) ∙ sum in
    let back : s ≡ n - 1 - t = omega arith in
    (ap negsuc (sym (div-mul-add k n t below)) ∙ ap (λ z. over z n) (sym is), back ∙ ap (λ m. n - 1 - m) (sym (mod-mul-add k n t below)) ∙ ap (λ z. left z n) (sym is))

-- a product with the sign of its first factor turned
turned_product : (n : ℕ) (q : ℤ) → negsuc n *ℤ q ≡ neg_ℤ (pos (suc n) *ℤ q)
turned_product n (pos k) = negsuc-*ℤ-pos n k ∙ ap neg_ℤ (sym (pos-*ℤ-pos (suc n) k))
turned_product n (negsuc k) = negsuc-*ℤ-negsuc n k ∙ omega (arith, ints, pos-*ℤ-negsuc (suc n) k)

divides : (a b : ℤ) → b ≢ pos 0 → IsFloorDivision a b (floor_quotient a b) (floor_rest a b)
divides a (pos zero) h = absurd (h refl)
divides a (pos (suc n)) h =
    let below : left a (suc n) < suc n = left_below a (suc n) (omega arith) in
    record { whole = over_whole a (suc n) (omega arith); short = (omega (arith, ints), omega (arith, ints)) }
divides a (negsuc n) h =
    let below : left (neg_ℤ a) (suc n) < suc n = left_below (neg_ℤ a) (suc n) (omega arith) in
    let whole : neg_ℤ a ≡ pos (suc n) *ℤ over (neg_ℤ a) (suc n) +ℤ pos (left (neg_ℤ a) (suc n)) = over_whole (neg_ℤ a) (suc n) (omega arith) in
    let product : negsuc n *ℤ over (neg_ℤ a) (suc n) ≡ neg_ℤ (pos (suc n) *ℤ over (neg_ℤ a) (suc n)) = turned_product n (over (neg_ℤ a) (suc n)) in
    record { whole = omega (arith, ints); short = (omega (arith, ints), omega (arith, ints)) }

-- a number from zero down is the negation of a natural number
below_zero : (n : ℕ) (r : ℤ) → negsuc n <ℤ r → r ≤ℤ pos 0 → (s : ℕ) × (s < suc n) × (r ≡ neg_ℤ (pos s))
below_zero n (pos r) h k = (r, omega (arith, ints), omega (arith, ints))
below_zero n (negsuc r) h k = (suc r, omega (arith, ints), refl)

from_zero : (n : ℕ) (r : ℤ) → pos 0 ≤ℤ r → r <ℤ pos n → (s : ℕ) × (s < n) × (r ≡ pos s)
from_zero n (pos r) h k = (r, omega (arith, ints), refl)
from_zero n (negsuc r) h k = absurd (omega (arith, ints))

alone : (a b q r : ℤ) → b ≢ pos 0 → IsFloorDivision a b q r → (q ≡ floor_quotient a b) × (r ≡ floor_rest a b)
alone a (pos n) q r h d =
    let s : (s : ℕ) × (s < n) × (r ≡ pos s) = from_zero n r d.short.0 d.short.1 in
    let both : (q ≡ over a n) × (s.0 ≡ left a n) = alone_over a q n s.0 s.1 (d.whole ∙ ap (λ z. pos n *ℤ q +ℤ z) s.2) in
    (both.0, s.2 ∙ ap pos both.1)
alone a (negsuc n) q r h d =
    let s : (s : ℕ) × (s < suc n) × (r ≡ neg_ℤ (pos s)) = below_zero n r d.short.0 d.short.1 in
    let product : negsuc n *ℤ q ≡ neg_ℤ (pos (suc n) *ℤ q) = turned_product n q in
    let rest : r ≡ neg_ℤ (pos s.0) = s.2 in
    let whole : neg_ℤ a ≡ pos (suc n) *ℤ q +ℤ pos s.0 = omega (arith, ints, d.whole) in
    let both : (q ≡ over (neg_ℤ a) (suc n)) × (s.0 ≡ left (neg_ℤ a) (suc n)) = alone_over (neg_ℤ a) q (suc n) s.0 s.1 whole in
    (both.0, rest ∙ ap (λ m. neg_ℤ (pos m)) both.1)

pub floor_divides : FloorDivides
floor_divides = record { divides = divides; alone = alone }

euclid_left : (z : ℤ) (n : ℕ) → int_rem_euclid z (pos n) ≡ pos (left z n)
euclid_left (pos a) n = refl
euclid_left (negsuc a) n = refl

-- the rest beside a divisor below zero, by the rest of the negated numbers
pub rest_below : (a b : ℤ) → b <ℤ pos 0 → neg_ℤ (int_rem_euclid (neg_ℤ a) (neg_ℤ b)) ≡ floor_rest a b
rest_below a (pos n) h = absurd (omega (arith, ints))
rest_below a (negsuc n) h = ap neg_ℤ (euclid_left (neg_ℤ a) (suc n))

abs_small : (b : ℤ) → FitsSigned w64 b → unsigned_abs (neg_ℤ b) ≤ 2 ^ 63
abs_small (pos zero) h = omega (arith, ints)
abs_small (pos (suc n)) h = omega (arith, ints)
abs_small (negsuc n) h = omega (arith, ints)

negated_small : (r : ℤ) → unsigned_abs r < 2 ^ 63 → to_z w128 (of_z w128 (pos 0 -ℤ to_z w128 (of_z w128 r))) ≡ neg_ℤ r
negated_small (pos n) h = omega (arith, ints)
negated_small (negsuc n) h = omega (arith, ints)

-- the negation of a rest in 128 bits
pub negated_rest : (r b d : ℤ) → FitsSigned w64 b → unsigned_abs r < unsigned_abs d → d ≡ neg_ℤ b → to_z w128 (of_z w128 (pos 0 -ℤ to_z w128 (of_z w128 r))) ≡ neg_ℤ r
negated_rest r b d fits h e =
    let below : unsigned_abs r < unsigned_abs (neg_ℤ b) = subst (λ z. unsigned_abs r < unsigned_abs z) e h in
    let small : unsigned_abs (neg_ℤ b) ≤ 2 ^ 63 = abs_small b fits in
    negated_small r (omega arith)
