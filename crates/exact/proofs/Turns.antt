-- A recursion on a count of turns, beside a loop that counts up to their number.
use Rattle.std.proofs.Common.{◌≡◌, ℕ, zero, suc, ◌+◌, ◌-◌, ◌<◌, ◌≤◌, Bool, true, false, List, ap, refl, ◌∙◌, arith}
use Rattle.exact.specs.Language.{Step}
use Rattle.exact.specs.Reading.{Reader, Got, and_then, heads, chain_from, loop_from, onward}

-- In a turn: one more is left than after it.
pub one_more : {X : Type 0} {x : X} (f : ℕ → X) (turns turn : ℕ) → turn < turns → x ≡ f (turns - turn) → x ≡ f (suc (turns - (turn + 1)))
one_more f turns turn below e = let left : turns - turn ≡ suc (turns - (turn + 1)) = omega arith in e ∙ ap f left

-- After the last turn: none is left.
pub no_more : {X : Type 0} {x : X} (f : ℕ → X) (turns turn : ℕ) → turns ≤ turn → x ≡ f (turns - turn) → x ≡ f 0
no_more f turns turn over e = let left : turns - turn ≡ 0 = omega arith in e ∙ ap f left

-- ---- a chain and a loop, beside a loop of the code that counts the turns

module _ {T A : Type 0} (first : T → Bool) (step : A → Reader T A) where
  pub chain_stays : (turns : ℕ) (a : A) (ts : List T) → heads first ts ≡ false → chain_from first step turns a ts ≡ Got a ts
  unfolding chain_from
  chain_stays zero a ts h = refl
  chain_stays (suc n) a ts h = rw h refl

  pub chain_over : (turns turn : ℕ) (a : A) (ts : List T) → turns ≤ turn → chain_from first step (turns - turn) a ts ≡ Got a ts
  unfolding chain_from
  chain_over turns turn a ts over = let none : turns - turn ≡ 0 = omega arith in rw none refl

  pub chain_turn : (turns turn : ℕ) (a : A) (ts : List T) → turn < turns → heads first ts ≡ true → chain_from first step (turns - turn) a ts ≡ and_then (step a ts) (chain_from first step (turns - (turn + 1)))
  unfolding chain_from
  chain_turn turns turn a ts below h = let left : turns - turn ≡ suc (turns - (turn + 1)) = omega arith in rw (left, h) refl

module _ {T A R : Type 0} (last : A → Reader T R) (step : A → Reader T (Step A R)) where
  pub loop_over : (turns turn : ℕ) (a : A) (ts : List T) → turns ≤ turn → loop_from last step (turns - turn) a ts ≡ last a ts
  unfolding loop_from
  loop_over turns turn a ts over = let none : turns - turn ≡ 0 = omega arith in rw none refl

  pub loop_turn : (turns turn : ℕ) (a : A) (ts : List T) → turn < turns → loop_from last step (turns - turn) a ts ≡ and_then (step a ts) (onward (loop_from last step (turns - (turn + 1))))
  unfolding loop_from
  loop_turn turns turn a ts below = let left : turns - turn ≡ suc (turns - (turn + 1)) = omega arith in rw left refl
