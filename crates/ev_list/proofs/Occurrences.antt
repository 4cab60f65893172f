-- First occurrences, one after the other.
use Rattle.std.proofs.Common.{◌≡◌, ◌↔◌, List, [], ◌∷◌, ◌++◌, Bool, true, false, not, ◌||◌, cond, filter, refl, sym, ap, ◌∙◌, subst, append_assoc}
use Rattle.std.specs.List.{list_any}
use Rattle.ev_list.specs.Laws.{KeepsFirstOccurrences}
use Rattle.ev_list.specs.Occurrence.{without, distinct, has_repeat}

module _ {A : Type 0} (same : A → A → Bool) where
  -- the elements that are none of those seen
  abbrev pub unseen : List A → List A → List A
  unseen seen xs = filter (λ x. not (list_any (same x) seen)) xs

  pub unseen_none : (xs : List A) → unseen [] xs ≡ xs
  unseen_none [] = refl
  unseen_none (x ∷ xs) = ap (λ l. x ∷ l) (unseen_none xs)

  -- a filter within a filter that lets through no more
  filter_within : (p q : A → Bool) → ((y : A) → q y ≡ false → p y ≡ false) → (xs : List A) → filter p (filter q xs) ≡ filter p xs
  filter_within p q h [] = refl
  filter_within p q h (x ∷ xs) = by_case (filter_within p q h xs) (q x) refl
    where
      by_case : filter p (filter q xs) ≡ filter p xs → (b : Bool) → q x ≡ b → filter p (cond b (x ∷ filter q xs) (filter q xs)) ≡ cond (p x) (x ∷ filter p xs) (filter p xs)
      by_case more true e = ap (λ l. cond (p x) (x ∷ l) l) more
      by_case more false e = more ∙ sym (ap (λ b. cond b (x ∷ filter p xs) (filter p xs)) (h x e))

  filter_both : (p q r : A → Bool) → ((y : A) → r y ≡ cond (q y) (p y) false) → (xs : List A) → filter p (filter q xs) ≡ filter r xs
  filter_both p q r h [] = refl
  filter_both p q r h (x ∷ xs) = by_case (filter_both p q r h xs) (q x) refl
    where
      by_case : filter p (filter q xs) ≡ filter r xs → (b : Bool) → q x ≡ b → filter p (cond b (x ∷ filter q xs) (filter q xs)) ≡ cond (r x) (x ∷ filter r xs) (filter r xs)
      by_case more true e = ap (λ l. cond (p x) (x ∷ l) l) more ∙ sym (ap (λ b. cond b (x ∷ filter r xs) (filter r xs)) (h x ∙ ap (λ c. cond c (p x) false) e))
      by_case more false e = more ∙ sym (ap (λ b. cond b (x ∷ filter r xs) (filter r xs)) (h x ∙ ap (λ c. cond c (p x) false) e))

  any_more : (f : A → Bool) (xs : List A) (x : A) → list_any f (xs ++ x ∷ []) ≡ (list_any f xs || f x)
  any_more f [] x = or_false (f x)
    where
      or_false : (b : Bool) → (b || false) ≡ b
      or_false true = refl
      or_false false = refl
  any_more f (y ∷ ys) x = ap (λ b. f y || b) (any_more f ys x) ∙ or_three (f y) (list_any f ys) (f x)
    where
      or_three : (a b c : Bool) → (a || (b || c)) ≡ ((a || b) || c)
      or_three true b c = refl
      or_three false b c = refl

  module _ (exact : (x y : A) → (same x y ≡ true) ↔ (x ≡ y)) where
    turned : (x y : A) → same x y ≡ same y x
    turned x y = by_case (same x y) (same y x) refl refl
      where
        by_case : (a b : Bool) → same x y ≡ a → same y x ≡ b → a ≡ b
        by_case true true e f = refl
        by_case false false e f = refl
        by_case true false e f = sym ((exact y x).1 (sym ((exact x y).0 e))) ∙ f
        by_case false true e f = sym e ∙ (exact x y).1 (sym ((exact y x).0 f))

    not_false : (b : Bool) → not b ≡ false → b ≡ true
    not_false true h = refl
    not_false false h = cc

    -- an element that was seen adds nothing
    pub seen_turn : (whole seen xs : List A) (x : A) → seen ++ unseen seen (distinct same (x ∷ xs)) ≡ whole → list_any (same x) seen ≡ true → seen ++ unseen seen (distinct same xs) ≡ whole
    seen_turn whole seen xs x is known =
        ap (λ l. seen ++ l) (sym (ap (λ b. cond (not b) (x ∷ unseen seen (without same x (distinct same xs))) (unseen seen (without same x (distinct same xs)))) known
        ∙ filter_within (λ y. not (list_any (same y) seen)) (λ y. not (same x y)) (λ y h. ap not (subst (λ z. list_any (same z) seen ≡ true) ((exact x y).0 (not_false (same x y) h)) known)) (distinct same xs))) ∙ is

    or_not : (a b : Bool) → not (a || b) ≡ cond (not b) (not a) false
    or_not true true = refl
    or_not true false = refl
    or_not false true = refl
    or_not false false = refl

    -- one that was not is seen from now on
    pub unseen_turn : (whole seen xs : List A) (x : A) → seen ++ unseen seen (distinct same (x ∷ xs)) ≡ whole → list_any (same x) seen ≡ false → (seen ++ x ∷ []) ++ unseen (seen ++ x ∷ []) (distinct same xs) ≡ whole
    unseen_turn whole seen xs x is new =
        append_assoc seen (x ∷ []) (unseen (seen ++ x ∷ []) (distinct same xs))
        ∙ ap (λ l. seen ++ x ∷ l) (sym (filter_both (λ y. not (list_any (same y) seen)) (λ y. not (same x y)) (λ y. not (list_any (same y) (seen ++ x ∷ [])))
        (λ y. ap not (any_more (same y) seen x) ∙ or_not (list_any (same y) seen) (same y x) ∙ ap (λ b. cond (not b) (not (list_any (same y) seen)) false) (turned y x)) (distinct same xs)))
        ∙ ap (λ l. seen ++ l) (sym (ap (λ b. cond (not b) (x ∷ unseen seen (without same x (distinct same xs))) (unseen seen (without same x (distinct same xs)))) new)) ∙ is

-- ---- the laws of first occurrences

module _ {A : Type 0} (same : A → A → Bool) (exact : (x y : A) → (same x y ≡ true) ↔ (x ≡ y)) where
  filter_append : (p : A → Bool) (xs ys : List A) → filter p (xs ++ ys) ≡ filter p xs ++ filter p ys
  filter_append p [] ys = refl
  filter_append p (x ∷ xs) ys = by_case (filter_append p xs ys) (p x)
    where
      by_case : filter p (xs ++ ys) ≡ filter p xs ++ filter p ys → (b : Bool) → cond b (x ∷ filter p (xs ++ ys)) (filter p (xs ++ ys)) ≡ cond b (x ∷ filter p xs) (filter p xs) ++ filter p ys
      by_case e true = ap (λ l. x ∷ l) e
      by_case e false = e

  last_left : (p : A → Bool) (a : Bool) (x : A) → filter p (cond a [] (x ∷ [])) ≡ cond a [] (cond (p x) (x ∷ []) [])
  last_left p true x = refl
  last_left p false x = refl

  or_else : (a b : Bool) (l : List A) → cond a [] (cond (not b) l []) ≡ cond (b || a) [] l
  or_else true true l = refl
  or_else true false l = refl
  or_else false true l = refl
  or_else false false l = refl

  -- the last element is kept where it is none of those before
  pub more_kept : (xs : List A) (x : A) → distinct same (xs ++ x ∷ []) ≡ distinct same xs ++ cond (list_any (same x) xs) [] (x ∷ [])
  more_kept [] x = refl
  more_kept (y ∷ ys) x =
      ap (λ l. y ∷ l) (ap (without same y) (more_kept ys x) ∙ filter_append (λ z. not (same y z)) (distinct same ys) (cond (list_any (same x) ys) [] (x ∷ []))
      ∙ ap (λ l. without same y (distinct same ys) ++ l) (last_left (λ z. not (same y z)) (list_any (same x) ys) x ∙ or_else (list_any (same x) ys) (same y x) (x ∷ [])
      ∙ ap (λ b. cond (b || list_any (same x) ys) [] (x ∷ [])) (turned same exact y x)))

  -- what is taken away is not there
  none_left : (p : A → Bool) (xs : List A) → list_any p (filter (λ y. not (p y)) xs) ≡ false
  none_left p [] = refl
  none_left p (x ∷ xs) = by_case (none_left p xs) (p x) refl
    where
      by_case : list_any p (filter (λ y. not (p y)) xs) ≡ false → (b : Bool) → p x ≡ b → list_any p (cond (not b) (x ∷ filter (λ y. not (p y)) xs) (filter (λ y. not (p y)) xs)) ≡ false
      by_case e true h = e
      by_case e false h = ap (λ b. b || list_any p (filter (λ y. not (p y)) xs)) h ∙ e

  or_parts : (a b : Bool) → (a || b) ≡ false → (a ≡ false) × (b ≡ false)
  or_parts true b h = cc
  or_parts false b h = (refl, h)

  any_less : (p q : A → Bool) (xs : List A) → list_any p xs ≡ false → list_any p (filter q xs) ≡ false
  any_less p q [] h = refl
  any_less p q (x ∷ xs) h = by_case (any_less p q xs (or_parts (p x) (list_any p xs) h).1) (q x)
    where
      by_case : list_any p (filter q xs) ≡ false → (b : Bool) → list_any p (cond b (x ∷ filter q xs) (filter q xs)) ≡ false
      by_case e true = ap (λ b. b || list_any p (filter q xs)) (or_parts (p x) (list_any p xs) h).0 ∙ e
      by_case e false = e

  repeat_less : (q : A → Bool) (xs : List A) → has_repeat same xs ≡ false → has_repeat same (filter q xs) ≡ false
  repeat_less q [] h = refl
  repeat_less q (x ∷ xs) h =
      let parts : (list_any (same x) xs ≡ false) × (has_repeat same xs ≡ false) = or_parts (list_any (same x) xs) (has_repeat same xs) h in
      by_case (any_less (same x) q xs parts.0) (repeat_less q xs parts.1) (q x)
    where
      by_case : list_any (same x) (filter q xs) ≡ false → has_repeat same (filter q xs) ≡ false → (b : Bool) → has_repeat same (cond b (x ∷ filter q xs) (filter q xs)) ≡ false
      by_case e f true = ap (λ b. b || has_repeat same (filter q xs)) e ∙ f
      by_case e f false = f

  no_repeat : (xs : List A) → has_repeat same (distinct same xs) ≡ false
  no_repeat [] = refl
  no_repeat (x ∷ xs) = ap (λ b. b || has_repeat same (without same x (distinct same xs))) (none_left (same x) (distinct same xs)) ∙ repeat_less (λ y. not (same x y)) (distinct same xs) (no_repeat xs)

  pub keeps_first : KeepsFirstOccurrences same
  keeps_first = record { of_none = refl; of_more = more_kept; once = no_repeat }
