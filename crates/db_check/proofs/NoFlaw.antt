-- Where nothing fails, no part does.
use Rattle.std.proofs.Common.{◌≡◌, Bool, true, false, not, ◌||◌, List, [], ◌∷◌, ◌++◌, Option, Some, None, option_map, refl}
use Rattle.std.specs.List.{list_any}
use Rattle.db_draft.specs.First.{or_else, when}
use Rattle.db_store.specs.Fits.{Each}

pub neither_of : {A : Type 0} (o p : Option A) → or_else o p ≡ None → (o ≡ None) × (p ≡ None)
neither_of None p e = (refl, e)
neither_of (Some x) p e = absurd (cc)

pub not_when : {A : Type 0} (b : Bool) (x : A) → when b x ≡ None → b ≡ false
not_when true x e = cc
not_when false x e = refl

pub none_mapped : {A B : Type 0} (f : A → B) (o : Option A) → option_map f o ≡ None → o ≡ None
none_mapped f None e = refl
none_mapped f (Some x) e = cc

pub not_false : (b : Bool) → not b ≡ false → b ≡ true
not_false true e = refl
not_false false e = cc

pub neither : (a b : Bool) → (a || b) ≡ false → (a ≡ false) × (b ≡ false)
neither true b h = absurd (cc)
neither false b h = (refl, h)

pub each_not : {A : Type 0} (test : A → Bool) (xs : List A) → list_any test xs ≡ false → Each (λ x. test x ≡ false) xs
each_not test [] h = tt
each_not test (x ∷ more) h = let both = neither (test x) (list_any test more) h in (both.0, each_not test more both.1)

pub no_either : (a b : Bool) → a ≡ false → b ≡ false → (a || b) ≡ false
no_either true b h g = cc
no_either false b h g = g

pub not_joined : {A : Type 0} (test : A → Bool) (xs ys : List A) → list_any test (xs ++ ys) ≡ false → (list_any test xs ≡ false) × (list_any test ys ≡ false)
not_joined test [] ys h = (refl, h)
not_joined test (x ∷ xs) ys h =
    let both = neither (test x) (list_any test (xs ++ ys)) h in
    let later = not_joined test xs ys both.1 in
    (no_either (test x) (list_any test xs) both.0 later.0, later.1)
