-- Places in ascending order are told by which places are among them.
use Rattle.std.proofs.Common.{◌≡◌, ◌≤◌, ◌<◌, ℕ, suc, ◌&&◌, ◌||◌, Bool, true, false, List, [], ◌∷◌, ◌++◌, flat_map, nat_eq, if◌then◌else◌, refl, sym, ap, ◌∙◌, arith, ◌⊎◌, ⊎_elim}
use Rattle.std.proofs.lemmas.Bool.{eq-eqb, ne_eqb, cases_order}
use Rattle.std.specs.List.{list_any}
use Rattle.eql_steps.specs.Index.{places_where}

-- whether the element at a place passes a test; the first element has the place k
abbrev pub any_at : {A : Type 0} → ℕ → List A → ℕ → (A → Bool) → Bool
any_at k [] i test = false
any_at k (x ∷ more) i test = (test x && nat_eq i k) || any_at (suc k) more i test

in_places_at : (b : Bool) (i k : ℕ) (ks : List ℕ) (c : Bool) → list_any (nat_eq i) ks ≡ c → list_any (nat_eq i) (if b then k ∷ ks else ks) ≡ (b && nat_eq i k) || c
in_places_at true i k ks c e = ap (λ d. nat_eq i k || d) e
in_places_at false i k ks c e = e

-- a place is among those of the elements that pass a test where the element at it passes the test
pub in_places : {A : Type 0} (test : A → Bool) (k : ℕ) (xs : List A) (i : ℕ) → list_any (nat_eq i) (places_where test k xs) ≡ any_at k xs i test
in_places test k [] i = refl
in_places test k (x ∷ more) i = in_places_at (test x) i k (places_where test (suc k) more) (any_at (suc k) more i test) (in_places test (suc k) more i)

pub any_none : {A : Type 0} (k : ℕ) (xs : List A) (i : ℕ) → any_at k xs i (λ x. false) ≡ false
any_none k [] i = refl
any_none k (x ∷ more) i = any_none (suc k) more i

either : (a b n x y : Bool) → ((a || b) && n) || (x || y) ≡ ((a && n) || x) || ((b && n) || y)
either true b false x y = by b x y
  where
    by : (b x y : Bool) → x || y ≡ x || ((b && false) || y)
    by true x y = refl
    by false x y = refl
either true b true x y = refl
either false true true true y = refl
either false true true false y = refl
either false true false x y = refl
either false false n x y = refl

any_either : {A : Type 0} (k : ℕ) (xs : List A) (i : ℕ) (p q : A → Bool) → any_at k xs i (λ x. p x || q x) ≡ any_at k xs i p || any_at k xs i q
any_either k [] i p q = refl
any_either k (x ∷ more) i p q =
    ap (λ d. ((p x || q x) && nat_eq i k) || d) (any_either (suc k) more i p q)
    ∙ either (p x) (q x) (nat_eq i k) (any_at (suc k) more i p) (any_at (suc k) more i q)

-- some test passes at a place where the element there passes some test
pub any_exchanged : {A B : Type 0} (k : ℕ) (xs : List A) (i : ℕ) (test : B → A → Bool) (ys : List B)
    → list_any (λ y. any_at k xs i (test y)) ys ≡ any_at k xs i (λ x. list_any (λ y. test y x) ys)
any_exchanged k xs i test [] = sym (any_none k xs i)
any_exchanged k xs i test (y ∷ ys) =
    ap (λ d. any_at k xs i (test y) || d) (any_exchanged k xs i test ys)
    ∙ sym (any_either k xs i (test y) (λ x. list_any (λ y. test y x) ys))

-- ---- lists of lists

or_again : (a b c : Bool) → (a || b) || c ≡ a || (b || c)
or_again true b c = refl
or_again false b c = refl

pub any_joined : {A : Type 0} (test : A → Bool) (xs ys : List A) → list_any test (xs ++ ys) ≡ list_any test xs || list_any test ys
any_joined test [] ys = refl
any_joined test (x ∷ xs) ys = ap (λ d. test x || d) (any_joined test xs ys) ∙ sym (or_again (test x) (list_any test xs) (list_any test ys))

pub any_flat : {A B : Type 0} (test : B → Bool) (f : A → List B) (xs : List A) → list_any test (flat_map f xs) ≡ list_any (λ x. list_any test (f x)) xs
any_flat test f [] = refl
any_flat test f (x ∷ xs) = any_joined test (f x) (flat_map f xs) ∙ ap (λ d. list_any test (f x) || d) (any_flat test f xs)

-- ---- ascending numbers

-- numbers from a bound on, each below the next
abbrev pub Rising : ℕ → List ℕ → Type 0
Rising bound [] = Unit {0}
Rising bound (k ∷ ks) = (bound ≤ k) × Rising (suc k) ks

lower : (a b : ℕ) (ks : List ℕ) → a ≤ b → Rising b ks → Rising a ks
lower a b [] le up = tt
lower a b (k ∷ ks) le up = (omega (arith, le, up.0), up.1)

rising_at : (b : Bool) (k : ℕ) (ks : List ℕ) → Rising (suc k) ks → Rising k (if b then k ∷ ks else ks)
rising_at true k ks up = (omega arith, up)
rising_at false k ks up = lower k (suc k) ks (omega arith) up

pub places_rise : {A : Type 0} (test : A → Bool) (k : ℕ) (xs : List A) → Rising k (places_where test k xs)
places_rise test k [] = tt
places_rise test k (x ∷ more) = rising_at (test x) k (places_where test (suc k) more) (places_rise test (suc k) more)

-- no number below the bound is among them
below : (i bound : ℕ) (ks : List ℕ) → i < bound → Rising bound ks → list_any (nat_eq i) ks ≡ false
below i bound [] less up = refl
below i bound (k ∷ ks) less up =
    ap (λ d. d || list_any (nat_eq i) ks) (ne_eqb i k (λ e. omega (arith, less, up.0, e)))
    ∙ below i (suc k) ks (omega (arith, less, up.0)) up.1

itself : (i : ℕ) (ks : List ℕ) → list_any (nat_eq i) (i ∷ ks) ≡ true
itself i ks = ap (λ d. d || list_any (nat_eq i) ks) (eq-eqb i i refl)

-- numbers that rise and are among the same are the same
pub same_numbers : (bound : ℕ) (xs ys : List ℕ) → Rising bound xs → Rising bound ys → ((i : ℕ) → list_any (nat_eq i) xs ≡ list_any (nat_eq i) ys) → xs ≡ ys
same_numbers bound [] [] p q e = refl
same_numbers bound [] (y ∷ ys) p q e = let clash : false ≡ true = e y ∙ itself y ys in absurd cc
same_numbers bound (x ∷ xs) [] p q e = let clash : true ≡ false = sym (itself x xs) ∙ e x in absurd cc
same_numbers bound (x ∷ xs) (y ∷ ys) p q e =
    ⊎_elim (λ h. equal h (same_numbers (suc x) xs ys p.1 (lower (suc x) (suc y) ys (omega (arith, h)) q.1) (λ k. rest_at k _ _ (cases_order k x) h refl refl))) (⊎_elim less more) (cases_order x y)
  where
    less : x < y → x ∷ xs ≡ y ∷ ys
    less h = let clash : true ≡ false = sym (itself x xs) ∙ e x ∙ below x y (y ∷ ys) h (omega arith, q.1) in absurd cc

    more : y < x → x ∷ xs ≡ y ∷ ys
    more h = let clash : true ≡ false = sym (itself y ys) ∙ sym (e y) ∙ below y x (x ∷ xs) h (omega arith, p.1) in absurd cc

    rest_at : (i : ℕ) (a b : Bool) → (i ≡ x) ⊎ ((i < x) ⊎ (x < i)) → x ≡ y → list_any (nat_eq i) xs ≡ a → list_any (nat_eq i) ys ≡ b → a ≡ b
    rest_at i a b at same ea eb = ⊎_elim here (⊎_elim under over) at
      where
        here : i ≡ x → a ≡ b
        here h = sym ea ∙ below i (suc x) xs (omega (arith, h)) p.1 ∙ sym (below i (suc y) ys (omega (arith, h, same)) q.1) ∙ eb

        under : i < x → a ≡ b
        under h = sym ea ∙ below i (suc x) xs (omega (arith, h)) p.1 ∙ sym (below i (suc y) ys (omega (arith, h, same)) q.1) ∙ eb

        over : x < i → a ≡ b
        over h = sym ea
            ∙ sym (ap (λ d. d || list_any (nat_eq i) xs) (ne_eqb i x (λ e. omega (arith, h, e))))
            ∙ e i
            ∙ ap (λ d. d || list_any (nat_eq i) ys) (ne_eqb i y (λ e. omega (arith, h, e, same)))
            ∙ eb

    equal : x ≡ y → xs ≡ ys → x ∷ xs ≡ y ∷ ys
    equal h rest = λ i. h i ∷ rest i
