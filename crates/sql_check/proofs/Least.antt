-- The least of bytes with one more behind them.
use Rattle.std.proofs.Common.{◌≡◌, ◌<◌, ◌≤◌, ◌⊎◌, inl, inr, ℕ, List, [], ◌∷◌, ◌++◌, length, Contains, Some, None, ap, arith}
use Rattle.std.proofs.lemmas.List.Elements.{Contains-append_left, Contains-push, Contains-push_cases}
use Rattle.sql_check.specs.Walk.{IsLeast}

bound : (xs : List ℕ) (least byte other : ℕ) → ((x : ℕ) → Contains xs x → least ≤ x) → least ≤ byte → Contains xs other ⊎ (byte ≡ other) → least ≤ other
bound xs least byte other h le (inl there) = h other there
bound xs least byte other h le (inr e) = omega (arith, le, e)

nothing_below : (xs : List ℕ) (byte x : ℕ) → xs ≡ [] → Contains xs x → byte ≤ x
nothing_below xs byte x e there = let none = ap length e in let lt = there.1 in absurd (omega (arith, none, lt))

below_all : (xs : List ℕ) (least byte x : ℕ) → byte < least → ((x : ℕ) → Contains xs x → least ≤ x) → Contains xs x → byte ≤ x
below_all xs least byte x lt h there = let le = h x there in omega (arith, lt, le)

pub first_byte : (xs : List ℕ) (byte : ℕ) → IsLeast None xs → IsLeast (Some byte) (xs ++ byte ∷ [])
first_byte xs byte e = (Contains-push xs byte, λ other there. bound xs byte byte other (λ x h. nothing_below xs byte x e h) (omega arith) (Contains-push_cases xs byte other there))

pub lesser_byte : (xs : List ℕ) (least byte : ℕ) → byte < least → IsLeast (Some least) xs → IsLeast (Some byte) (xs ++ byte ∷ [])
lesser_byte xs least byte lt h = (Contains-push xs byte, λ other there. bound xs byte byte other (λ x h'. below_all xs least byte x lt h.1 h') (omega arith) (Contains-push_cases xs byte other there))

pub kept_byte : (xs : List ℕ) (least byte : ℕ) → least ≤ byte → IsLeast (Some least) xs → IsLeast (Some least) (xs ++ byte ∷ [])
kept_byte xs least byte le h = (Contains-append_left xs (byte ∷ []) least h.0, λ other there. bound xs least byte other h.1 le (Contains-push_cases xs byte other there))
