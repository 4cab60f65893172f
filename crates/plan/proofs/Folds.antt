-- The turns of a loop over items by a rule.
use Rattle.std.proofs.Common.{◌≡◌, ℕ, ◌+◌, ◌<◌, ◌≤◌, List, [], ◌∷◌, ◌++◌, length, get_or, drop, ap, sym, ◌∙◌, add-one, drop-cons}
use Rattle.std.proofs.lemmas.List.{drop_all}
use Rattle.plan.specs.Plan.{Told, Given, and_then, tells}
use Rattle.plan.specs.Ruled.{Ruled, each_with, in_turn}

rest_is : {X : Type 0} (xs : List X) (i : ℕ) (x : X) → i < length xs → x ≡ get_or xs i x → drop i xs ≡ x ∷ drop (i + 1) xs
rest_is xs i x lt is = drop-cons xs i x lt ∙ (λ j. sym is j ∷ drop (sym (add-one i) j) xs)

module _ {R S X Y : Type 0} (f : List Y → X → Ruled R S Y) (done : List Y) (xs : List X) (i : ℕ) (s : S) (whole : Told R (List Y × S)) where
  abbrev rest : List X → Told R (List Y × S)
  rest xs = tells (each_with f done xs s)

  -- an item that becomes y
  pub turn : (x : X) (y : Y) (next : S) → i < length xs → x ≡ get_or xs i x → rest (drop i xs) ≡ whole → tells (f done x s) ≡ Given (y, next) → tells (each_with f (done ++ y ∷ []) (drop (i + 1) xs) next) ≡ whole
  turn x y next lt is inv e =
      sym (ap (λ t. and_then t (λ b. tells (each_with f (done ++ b.0 ∷ []) (drop (i + 1) xs) b.1))) e) ∙ sym (ap rest (rest_is xs i x lt is)) ∙ inv

  -- what is left is the next item and what comes after it
  pub step : (x : X) → i < length xs → x ≡ get_or xs i x → rest (drop i xs) ≡ whole → whole ≡ and_then (tells (f done x s)) (λ b. tells (each_with f (done ++ b.0 ∷ []) (drop (i + 1) xs) b.1))
  step x lt is inv = sym inv ∙ ap rest (rest_is xs i x lt is)

  -- no item is left
  pub finish : length xs ≤ i → rest (drop i xs) ≡ whole → whole ≡ Given (done, s)
  finish h inv = sym inv ∙ ap rest (drop_all i xs h)

module _ {R S X A : Type 0} (f : A → X → Ruled R S A) (a : A) (xs : List X) (i : ℕ) (s : S) (whole : Told R (A × S)) where
  abbrev left : List X → Told R (A × S)
  left xs = tells (in_turn f a xs s)

  -- an item that makes b of a
  pub goes : (x : X) (b : A) (next : S) → i < length xs → x ≡ get_or xs i x → left (drop i xs) ≡ whole → tells (f a x s) ≡ Given (b, next) → tells (in_turn f b (drop (i + 1) xs) next) ≡ whole
  goes x b next lt is inv e =
      sym (ap (λ t. and_then t (λ b. tells (in_turn f b.0 (drop (i + 1) xs) b.1))) e) ∙ sym (ap left (rest_is xs i x lt is)) ∙ inv

  -- what is left is the next item and what comes after it
  pub comes : (x : X) → i < length xs → x ≡ get_or xs i x → left (drop i xs) ≡ whole → whole ≡ and_then (tells (f a x s)) (λ b. tells (in_turn f b.0 (drop (i + 1) xs) b.1))
  comes x lt is inv = sym inv ∙ ap left (rest_is xs i x lt is)

  -- no item is left
  pub ends : length xs ≤ i → left (drop i xs) ≡ whole → whole ≡ Given (a, s)
  ends h inv = sym inv ∙ ap left (drop_all i xs h)
