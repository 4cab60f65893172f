-- Numbers each below the next, and lists with the same members.
use Rattle.std.proofs.Common.{◌≡◌, ◌≤◌, ℕ, suc, Bool, true, false, List, [], ◌∷◌, nat_eq, refl, sym, ◌∙◌, arith}
use Rattle.std.proofs.lemmas.Bool.{eqb-true}
use Rattle.std.proofs.lemmas.Map.Views.{Contains-from_any, list_any-from_Contains}
use Rattle.std.specs.Cmp.{nat_eq_equiv}
use Rattle.std.specs.List.{list_any, Contains}
use Rattle.std.proofs.lemmas.Map.Keys.{below_from_sorted, sorted_tail, sorted_from_strictly_increasing}
use Rattle.std.specs.List.Sorted.{IsStrictlyIncreasing, IsStrictlySortedBy}
use Rattle.std.specs.Ordering.{nat_cmp}
use Rattle.eql_steps.proofs.Members.{Rising}

-- lists with the same members have the same numbers among them
pub same_members : (xs ys : List ℕ) → ((x : ℕ) → Contains xs x → Contains ys x) → ((x : ℕ) → Contains ys x → Contains xs x) → (i : ℕ) → list_any (nat_eq i) xs ≡ list_any (nat_eq i) ys
same_members xs ys to from i = by_tests (list_any (nat_eq i) xs) (list_any (nat_eq i) ys) refl refl
  where
    there : (zs : List ℕ) → list_any (nat_eq i) zs ≡ true → Contains zs i
    there zs e = Contains-from_any {eq = nat_eq} (λ x y h. eqb-true x y h) i zs e

    told : (zs : List ℕ) → Contains zs i → list_any (nat_eq i) zs ≡ true
    told zs h = list_any-from_Contains nat_eq_equiv i zs h

    by_tests : (a b : Bool) → list_any (nat_eq i) xs ≡ a → list_any (nat_eq i) ys ≡ b → list_any (nat_eq i) xs ≡ list_any (nat_eq i) ys
    by_tests true true ea eb = ea ∙ sym eb
    by_tests false false ea eb = ea ∙ sym eb
    by_tests true false ea eb = let clash : true ≡ false = sym (told ys (to i (there xs ea))) ∙ eb in absurd cc
    by_tests false true ea eb = let clash : true ≡ false = sym (told xs (from i (there ys eb))) ∙ ea in absurd cc

rising_from : (bound k : ℕ) (ks : List ℕ) → bound ≤ k → IsStrictlySortedBy nat_cmp (k ∷ ks) → Rising bound (k ∷ ks)
rising_from bound k [] le up = (le, tt)
rising_from bound k (n ∷ ks) le up =
    (le, rising_from (suc k) n ks (omega (arith, below_from_sorted (k ∷ n ∷ ks) 0 1 0 up (omega arith) (omega arith))) (sorted_tail nat_cmp k (n ∷ ks) up))

-- numbers each below the next rise from 0
pub rising : (ks : List ℕ) → IsStrictlyIncreasing ks → Rising 0 ks
rising [] up = tt
rising (k ∷ ks) up = rising_from 0 k ks (omega arith) (sorted_from_strictly_increasing (k ∷ ks) up)
