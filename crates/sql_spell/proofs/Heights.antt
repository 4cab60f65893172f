-- Heights that are within the limit.
use Rattle.std.proofs.Common.{◌≡◌, ℕ, suc, ◌+◌, ◌≤◌, max, Bool, false, cond, ap, ◌∙◌, arith}
use Rattle.std.proofs.lemmas.Bool.Decides.{nat_tests}
use Rattle.sql_grammar.specs.declared.limits.TheConstants.{MAX_HEIGHT}
use Rattle.sql_grammar.specs.Trees.{above, too_high}

pub is_low : (h : ℕ) → h ≤ MAX_HEIGHT → too_high h ≡ false
is_low h low = grind (arith, nat_tests)

pub above_low : (h : ℕ) → h ≤ MAX_HEIGHT → above h ≡ suc h
above_low h low = ap (λ (b : Bool). cond b h (suc h)) (is_low h low)

pub max_apart : (a b c : ℕ) → max (max a b) c ≡ max a (max b c)
max_apart a b c = omega arith

pub max_left : (a b n : ℕ) → max a b ≤ n → a ≤ n
max_left a b n h = omega arith

pub max_right : (a b n : ℕ) → max a b ≤ n → b ≤ n
max_right a b n h = omega arith

pub above_is : (a h : ℕ) → a ≡ h → suc h ≤ MAX_HEIGHT → above a ≡ suc h
above_is a h p low = above_low a (omega arith) ∙ ap suc p

pub twice_left : (a b n : ℕ) → max a b + max a b ≤ n → a + a ≤ n
twice_left a b n h = omega arith

pub twice_right : (a b n : ℕ) → max a b + max a b ≤ n → b + b ≤ n
twice_right a b n h = omega arith
