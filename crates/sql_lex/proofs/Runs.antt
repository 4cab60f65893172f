-- Whole runs of bytes of one kind, and texts between quotes.
use Rattle.std.proofs.Common.{◌≡◌, ℕ, zero, suc, ◌+◌, ◌<◌, Bool, true, false, cond, List, [], ◌∷◌, ◌++◌, ◌&&◌, ◌==◌, take, drop, refl, sym, ap, ◌∙◌, subst, arith}
use Rattle.std.specs.List.{list_all, prefix_len}
use Rattle.std.proofs.lemmas.Bool.Decides.{nat_tests}
use Rattle.sql_lex.specs.Byte.{goes_on, is_quote}
use Rattle.sql_lex.specs.Token.{doubled}
use Rattle.sql_lex.proofs.Front.{Same, Shorter, Longer, compare}

pub and_true : (x y : Bool) → (x && y) ≡ true → (x ≡ true) × (y ≡ true)
and_true true y h = (refl, h)
and_true false y h = cc h

pub clash : (b : Bool) → b ≡ true → b ≡ false → ⊥
clash b h k = cc (sym h ∙ k)

-- of a run, what is longer breaks off where the shorter ends
pub all_behind : (p : ℕ → Bool) (xs : List ℕ) (b : ℕ) (ys : List ℕ) → list_all p (xs ++ b ∷ ys) ≡ true → p b ≡ true
all_behind p [] b ys h = (and_true _ _ h).0
all_behind p (x ∷ xs) b ys h = all_behind p xs b ys (and_true _ _ h).1

-- two whole runs at one place are the same
pub run_once : (p : ℕ → Bool) (f r g s : List ℕ) → list_all p f ≡ true → goes_on p r ≡ false → list_all p g ≡ true → goes_on p s ≡ false → f ++ r ≡ g ++ s → (f ≡ g) × (r ≡ s)
run_once p f r g s a b c d e = elim (compare f r g s e) [
  | Same x y ↦ (x, y)
  | Shorter z more x y ↦ absurd (clash (p z) (all_behind p f z more (subst (λ l. list_all p l ≡ true) x c)) (subst (λ l. goes_on p l ≡ false) y b))
  | Longer z more x y ↦ absurd (clash (p z) (all_behind p g z more (subst (λ l. list_all p l ≡ true) x a)) (subst (λ l. goes_on p l ≡ false) y d))
]

front_step : (p : ℕ → Bool) (x : ℕ) (xs : List ℕ) (n : ℕ) (b : Bool) → p x ≡ b → list_all p (take n xs) ≡ true → list_all p (take (cond b (1 + n) 0) (x ∷ xs)) ≡ true
front_step p x xs n true e h = let one : 1 + n ≡ suc n = omega arith in rw one (rw e h)
front_step p x xs n false e h = refl

pub run_front : (p : ℕ → Bool) (xs : List ℕ) → list_all p (take (prefix_len p xs) xs) ≡ true
run_front p [] = refl
run_front p (x ∷ xs) = front_step p x xs (prefix_len p xs) (p x) refl (run_front p xs)

stops_step : (p : ℕ → Bool) (x : ℕ) (xs : List ℕ) (n : ℕ) (b : Bool) → p x ≡ b → goes_on p (drop n xs) ≡ false → goes_on p (drop (cond b (1 + n) 0) (x ∷ xs)) ≡ false
stops_step p x xs n true e h = let one : 1 + n ≡ suc n = omega arith in rw one h
stops_step p x xs n false e h = e

pub run_stops : (p : ℕ → Bool) (xs : List ℕ) → goes_on p (drop (prefix_len p xs) xs) ≡ false
run_stops p [] = refl
run_stops p (x ∷ xs) = stops_step p x xs (prefix_len p xs) (p x) refl (run_stops p xs)

pub run_some : (p q : ℕ → Bool) (xs : List ℕ) → ((b : ℕ) → p b ≡ true → q b ≡ true) → goes_on p xs ≡ true → 0 < prefix_len q xs
run_some p q [] f h = cc h
run_some p q (x ∷ xs) f h = rw (f x h) (omega arith)

pub front_first : (p : ℕ → Bool) (n : ℕ) (xs : List ℕ) → 0 < n → goes_on p xs ≡ true → goes_on p (take n xs) ≡ true
front_first p zero xs some h = absurd (omega arith)
front_first p (suc n) [] some h = h
front_first p (suc n) (x ∷ xs) some h = h

-- ---- texts

same_byte : (b c : ℕ) → (b == c) ≡ true → b ≡ c
same_byte b c h = grind (arith, nat_tests)

other_byte : (b c : ℕ) → (b == c) ≡ false → b ≡ c → ⊥
other_byte b c h e = grind (arith, nat_tests)

-- what stands for a byte
abbrev piece : Bool → ℕ → List ℕ → List ℕ
piece t b more = cond t (39 ∷ 39 ∷ more) (b ∷ more)

pub doubled_more : (text : List ℕ) (b : ℕ) → doubled (text ++ b ∷ []) ≡ doubled text ++ piece (b == 39) b []
doubled_more [] b = refl
doubled_more (c ∷ text) b = step (c == 39) (doubled_more text b) where
  step : (t : Bool) → doubled (text ++ b ∷ []) ≡ doubled text ++ piece (b == 39) b [] → piece t c (doubled (text ++ b ∷ [])) ≡ piece t c (doubled text) ++ piece (b == 39) b []
  step true h = ap (λ x. 39 ∷ 39 ∷ x) h
  step false h = ap (λ x. c ∷ x) h

-- A text that closes, and what stands behind it, are known from the bytes.
pub doubled_once : (t u r s : List ℕ) → goes_on is_quote r ≡ false → goes_on is_quote s ≡ false → doubled t ++ 39 ∷ r ≡ doubled u ++ 39 ∷ s → (t ≡ u) × (r ≡ s)
doubled_once [] [] r s a b e = (refl, cc e)
doubled_once [] (c ∷ u) r s a b e = absurd (step (c == 39) refl e) where
  step : (x : Bool) → (c == 39) ≡ x → 39 ∷ r ≡ piece x c (doubled u) ++ 39 ∷ s → ⊥
  step true h e = let k : r ≡ 39 ∷ (doubled u ++ 39 ∷ s) = cc e in let w : true ≡ false = ap (goes_on is_quote) (sym k) ∙ a in cc w
  step false h e = let k : 39 ≡ c = cc e in other_byte c 39 h (sym k)
doubled_once (c ∷ t) [] r s a b e = absurd (step (c == 39) refl e) where
  step : (x : Bool) → (c == 39) ≡ x → piece x c (doubled t) ++ 39 ∷ r ≡ 39 ∷ s → ⊥
  step true h e = let k : s ≡ 39 ∷ (doubled t ++ 39 ∷ r) = cc e in let w : true ≡ false = ap (goes_on is_quote) (sym k) ∙ b in cc w
  step false h e = let k : c ≡ 39 = cc e in other_byte c 39 h k
doubled_once (c ∷ t) (d ∷ u) r s a b e = both (λ i. doubled_once t u r s a b i) (c == 39) (d == 39) refl refl e where
  both : (doubled t ++ 39 ∷ r ≡ doubled u ++ 39 ∷ s → (t ≡ u) × (r ≡ s)) → (x y : Bool) → (c == 39) ≡ x → (d == 39) ≡ y → piece x c (doubled t) ++ 39 ∷ r ≡ piece y d (doubled u) ++ 39 ∷ s → (c ∷ t ≡ d ∷ u) × (r ≡ s)
  both once true true h k e =
      let m = once (cc e) in let q : c ≡ d = same_byte c 39 h ∙ sym (same_byte d 39 k) in
      (ap (λ x. x ∷ t) q ∙ ap (λ x. d ∷ x) m.0, m.1)
  both once true false h k e = let q : 39 ≡ d = cc e in absurd (other_byte d 39 k (sym q))
  both once false true h k e = let q : c ≡ 39 = cc e in absurd (other_byte c 39 h q)
  both once false false h k e =
      let m = once (cc e) in let q : c ≡ d = cc e in
      (ap (λ x. x ∷ t) q ∙ ap (λ x. d ∷ x) m.0, m.1)

-- Bytes of a text alone do not close.
pub doubled_open : (t u s : List ℕ) → goes_on is_quote s ≡ false → doubled t ≡ doubled u ++ 39 ∷ s → ⊥
doubled_open [] [] s b e = cc e
doubled_open [] (c ∷ u) s b e = step (c == 39) e where
  step : (x : Bool) → [] ≡ piece x c (doubled u) ++ 39 ∷ s → ⊥
  step true e = cc e
  step false e = cc e
doubled_open (c ∷ t) [] s b e = step (c == 39) refl e where
  step : (x : Bool) → (c == 39) ≡ x → piece x c (doubled t) ≡ 39 ∷ s → ⊥
  step true h e = let k : s ≡ 39 ∷ doubled t = cc e in let w : true ≡ false = ap (goes_on is_quote) (sym k) ∙ b in cc w
  step false h e = let k : c ≡ 39 = cc e in other_byte c 39 h k
doubled_open (c ∷ t) (d ∷ u) s b e = both (λ i. doubled_open t u s b i) (c == 39) (d == 39) refl refl e where
  both : (doubled t ≡ doubled u ++ 39 ∷ s → ⊥) → (x y : Bool) → (c == 39) ≡ x → (d == 39) ≡ y → piece x c (doubled t) ≡ piece y d (doubled u) ++ 39 ∷ s → ⊥
  both never true true h k e = never (cc e)
  both never true false h k e = let q : 39 ≡ d = cc e in other_byte d 39 k (sym q)
  both never false true h k e = let q : c ≡ 39 = cc e in other_byte c 39 h q
  both never false false h k e = never (cc e)
