-- The separators at one place are the same.
use Rattle.std.proofs.Common.{◌≡◌, ℕ, Bool, true, false, List, [], ◌∷◌, ◌++◌, ◌&&◌, refl, sym, ap, ◌∙◌, subst, inl, inr}
use Rattle.std.specs.List.{list_all}
use Rattle.ev_lex.specs.Byte.{is_blank, is_within_line, goes_on}
use Rattle.ev_lex.specs.Separator.{IsSeparator}
use Rattle.ev_lex.proofs.Front.{Same, Shorter, Longer, compare}

pub and_true : (x y : Bool) → (x && y) ≡ true → (x ≡ true) × (y ≡ true)
and_true true y h = (refl, h)
and_true false y h = cc h

-- of a run, what is longer breaks off where the shorter ends
pub all_behind : (p : ℕ → Bool) (xs : List ℕ) (b : ℕ) (ys : List ℕ) → list_all p (xs ++ b ∷ ys) ≡ true → p b ≡ true
all_behind p [] b ys h = (and_true _ _ h).0
all_behind p (x ∷ xs) b ys h = all_behind p xs b ys (and_true _ _ h).1

-- two whole runs at one place are the same
pub run_once : (p : ℕ → Bool) (f r g s : List ℕ) → list_all p f ≡ true → goes_on p r ≡ false → list_all p g ≡ true → goes_on p s ≡ false → f ++ r ≡ g ++ s → (f ≡ g) × (r ≡ s)
run_once p f r g s a b c d e = elim (compare f r g s e) [
  | Same x y ↦ (x, y)
  | Shorter z more x y ↦ absurd (clash p z (all_behind p f z more (subst (λ l. list_all p l ≡ true) x c)) (subst (λ l. goes_on p l ≡ false) y b))
  | Longer z more x y ↦ absurd (clash p z (all_behind p g z more (subst (λ l. list_all p l ≡ true) x a)) (subst (λ l. goes_on p l ≡ false) y d))
] where
  clash : (p : ℕ → Bool) (z : ℕ) → p z ≡ true → p z ≡ false → ⊥
  clash p z h k = cc (sym h ∙ k)

blank_not_hash : (b : ℕ) → is_blank b ≡ true → b ≡ 35 → ⊥
blank_not_hash b h e = let g : is_blank 35 ≡ true = subst (λ x. is_blank x ≡ true) e h in cc g

pub separator_once : (f r g s : List ℕ) → IsSeparator f r → IsSeparator g s → f ++ r ≡ g ++ s → (f ≡ g) × (r ≡ s)
separator_once f r g s (inl t) (inl u) e =
    let h : t.0 ∷ r ≡ u.0 ∷ s = ap (λ x. x ++ r) (sym t.1) ∙ e ∙ ap (λ x. x ++ s) u.1 in
    let b : t.0 ≡ u.0 = cc in (t.1 ∙ ap (λ x. x ∷ []) b ∙ sym u.1, cc)
separator_once f r g s (inl t) (inr u) e =
    let h : t.0 ∷ r ≡ 35 ∷ (u.0 ++ s) = ap (λ x. x ++ r) (sym t.1) ∙ e ∙ ap (λ x. x ++ s) u.1 in
    absurd (blank_not_hash t.0 t.2 (cc))
separator_once f r g s (inr t) (inl u) e =
    let h : 35 ∷ (t.0 ++ r) ≡ u.0 ∷ s = ap (λ x. x ++ r) (sym t.1) ∙ e ∙ ap (λ x. x ++ s) u.1 in
    absurd (blank_not_hash u.0 u.2 (cc))
separator_once f r g s (inr t) (inr u) e =
    let h : 35 ∷ (t.0 ++ r) ≡ 35 ∷ (u.0 ++ s) = ap (λ x. x ++ r) (sym t.1) ∙ e ∙ ap (λ x. x ++ s) u.1 in
    let k = run_once is_within_line t.0 r u.0 s t.2 t.3 u.2 u.3 (cc) in
    (t.1 ∙ ap (λ x. 35 ∷ x) k.0 ∙ sym u.1, k.1)
