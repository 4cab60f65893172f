-- Where no fault is told.
use Rattle.std.proofs.Common.{◌≡◌, ℕ, Bool, true, false, not, List, [], ◌∷◌, ◌++◌, refl, ap, ◌∙◌}
use Rattle.sql_ast.specs.declared.ty.SqlTy.{SqlTy}
use Rattle.sql_check.specs.Names.{unless}
use Rattle.sql_check.specs.Types.{failing, has_if, unless_alike}

pub no_first : (xs ys : List ℕ) → xs ++ ys ≡ [] → xs ≡ []
no_first [] ys h = refl
no_first (x ∷ xs) ys h = absurd (cc h)

pub no_more : (xs ys : List ℕ) → xs ++ ys ≡ [] → ys ≡ []
no_more [] ys h = h
no_more (x ∷ xs) ys h = absurd (cc h)

pub none_of_both : (xs ys : List ℕ) → xs ≡ [] → ys ≡ [] → xs ++ ys ≡ []
none_of_both xs ys e f = ap (λ l. l ++ ys) e ∙ f

-- six lists of faults, each empty
abbrev pub Six : List ℕ → List ℕ → List ℕ → List ℕ → List ℕ → List ℕ → Type 0
Six us vs ws xs ys zs = (us ≡ []) × (vs ≡ []) × (ws ≡ []) × (xs ≡ []) × (ys ≡ []) × (zs ≡ [])

pub six : (us vs ws xs ys zs : List ℕ) → us ++ (vs ++ (ws ++ (xs ++ (ys ++ zs)))) ≡ [] → Six us vs ws xs ys zs
six us vs ws xs ys zs h =
    let h1 : vs ++ (ws ++ (xs ++ (ys ++ zs))) ≡ [] = no_more us _ h in
    let h2 : ws ++ (xs ++ (ys ++ zs)) ≡ [] = no_more vs _ h1 in
    let h3 : xs ++ (ys ++ zs) ≡ [] = no_more ws _ h2 in
    let h4 : ys ++ zs ≡ [] = no_more xs _ h3 in
    (no_first us _ h, no_first vs _ h1, no_first ws _ h2, no_first xs _ h3, no_first ys zs h4, no_more ys zs h4)

pub six_none : (us vs ws xs ys zs : List ℕ) → Six us vs ws xs ys zs → us ++ (vs ++ (ws ++ (xs ++ (ys ++ zs)))) ≡ []
six_none us vs ws xs ys zs h = none_of_both us _ h.0 (none_of_both vs _ h.1 (none_of_both ws _ h.2 (none_of_both xs _ h.3 (none_of_both ys zs h.4 h.5))))

pub holds : (b : Bool) (byte : ℕ) → unless b byte ≡ [] → b ≡ true
holds true byte h = refl
holds false byte h = absurd (cc h)

pub holds_not : (b : Bool) (byte : ℕ) → unless (not b) byte ≡ [] → b ≡ false
holds_not true byte h = absurd (cc h)
holds_not false byte h = refl

pub are_alike : (b : Bool) (byte : ℕ) → unless_alike b byte ≡ [] → b ≡ true
are_alike true byte h = refl
are_alike false byte h = absurd (cc h)

pub has_it : (b : Bool) (t : SqlTy) (byte : ℕ) → failing (has_if b t) byte ≡ [] → b ≡ true
has_it true t byte h = refl
has_it false t byte h = absurd (cc h)
