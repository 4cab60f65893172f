-- The first id that stands twice, as a walk finds it that keeps a set of the ids before.
use Rattle.std.proofs.Common.{◌≡◌, ◌==◌, ℕ, ◌+◌, ◌<◌, List, [], ◌∷◌, ◌++◌, length, take, drop, get_or, Bool, true, false, not, cond, ◌||◌, nat_cmp, is_eq, Option, Some, if◌then◌else◌, refl, sym, ap, ◌∙◌}
use Rattle.std.proofs.lemmas.List.{take_more, at_drop_more}
use Rattle.std.specs.BTreeSet.{BTreeSet}
use Rattle.std.specs.BTreeSet as set
use Rattle.std.specs.Cmp.{unsigned_tied}
use Rattle.std.specs.List.{list_any}
use Rattle.db_values.specs.Links.{repeated}

any_last : (test : ℕ → Bool) (xs : List ℕ) (x : ℕ) → list_any test (xs ++ x ∷ []) ≡ cond (test x) true (list_any test xs)
any_last test [] x = last (test x)
  where
    last : (b : Bool) → (b || false) ≡ cond b true false
    last true = refl
    last false = refl
any_last test (y ∷ ys) x = rw (any_last test ys x) (front (test y) (test x) (list_any test ys))
  where
    front : (a b c : Bool) → (a || cond b true c) ≡ cond b true (a || c)
    front true true c = refl
    front true false c = refl
    front false true c = refl
    front false false c = refl

module _ (ids : List ℕ) (i d : ℕ) (lt : i < length ids) where
  -- what is seen once the next id is too
  pub seen_more : (m n : BTreeSet ℕ)
      → ((x : ℕ) → set.contains nat_cmp m x ≡ list_any (λ y. y == x) (take i ids))
      → ((x : ℕ) → set.contains nat_cmp n x ≡ cond (is_eq (nat_cmp (get_or ids i d) x)) true (set.contains nat_cmp m x))
      → (x : ℕ) → set.contains nat_cmp n x ≡ list_any (λ y. y == x) (take (i + 1) ids)
  seen_more m n seen updates x =
      updates x ∙ rw (unsigned_tied (get_or ids i d) x, seen x)
      (sym (any_last (λ y. y == x) (take i ids) (get_or ids i d)) ∙ ap (list_any (λ y. y == x)) (sym (take_more ids i d lt)))

  here : repeated (take i ids) (drop i ids) ≡ (if list_any (λ y. y == get_or ids i d) (take i ids) then Some (get_or ids i d) else repeated (take i ids ++ get_or ids i d ∷ []) (drop (i + 1) ids))
  here = at_drop_more (repeated (take i ids)) ids i d lt

  -- a new id is passed
  pub passed : (whole : Option ℕ) → list_any (λ y. y == get_or ids i d) (take i ids) ≡ false → repeated (take i ids) (drop i ids) ≡ whole → repeated (take (i + 1) ids) (drop (i + 1) ids) ≡ whole
  passed whole e is =
      ap (λ l. repeated l (drop (i + 1) ids)) (take_more ids i d lt)
      ∙ sym (here ∙ ap (λ b. if b then Some (get_or ids i d) else repeated (take i ids ++ get_or ids i d ∷ []) (drop (i + 1) ids)) e) ∙ is

pub not_seen : (b : Bool) → not b ≡ true → b ≡ false
not_seen true h = sym h
not_seen false h = refl
