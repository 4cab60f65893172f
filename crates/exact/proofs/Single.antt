-- Sets of tokens of one kind, and of tokens that stand for a value, beside sets that speak of kinds.
use Rattle.std.proofs.Common.{◌≡◌, Bool, true, false, not, ◌||◌, ◌⊎◌, inl, inr, Option, Some, None, refl, sym, ap, ◌∙◌}
use Rattle.exact.specs.Reading.{has, inside}
use Rattle.exact.proofs.Heads.{Apart, Covers}

by_bool : {A : Type 0} (b : Bool) → (b ≡ true → A) → (b ≡ false → A) → A
by_bool true so not_so = so refl
by_bool false so not_so = not_so refl

-- `is` holds of tokens of the kind c alone.
module _ {T K : Type 0} (kind : T → K) (c : K) (is : T → Bool) (only : (t : T) → is t ≡ true → kind t ≡ c) where
  -- What a set says of the kind it says of each such token.
  pub at_kind : (set : K → Bool) (b : Bool) → set c ≡ b → (t : T) → is t ≡ true → set (kind t) ≡ b
  at_kind set b h t so = ap set (only t so) ∙ h

  -- What is missing from a set that has the kind is no such token.
  pub covers_kind : (set : K → Bool) → set c ≡ true → (t : T) → set (kind t) ≡ false → is t ≡ false
  covers_kind set h t none = by_bool (is t) (λ so. let both = at_kind set true h t so in let bad : true ≡ false = sym both ∙ none in absurd cc) (λ not_so. not_so)

  -- What is in a set that lacks the kind is no such token.
  pub lacks_kind : (set : K → Bool) → set c ≡ false → (t : T) → set (kind t) ≡ true → is t ≡ false
  lacks_kind set h t some = by_bool (is t) (λ so. let both = at_kind set false h t so in let bad : false ≡ true = sym both ∙ some in absurd cc) (λ not_so. not_so)

  -- What closes, where just this kind does.
  pub closes_kind : (set : K → Bool) (b : Bool) → set c ≡ b → (t : T) → inside is t ≡ false → set (kind t) ≡ b
  closes_kind set b h t e = by_bool (is t) (λ so. at_kind set b h t so) (λ not_so. let bad : true ≡ false = sym (ap not not_so) ∙ e in absurd cc)

-- A token that stands for a value is one of those that do.
pub has_some : {T A : Type 0} (f : T → Option A) (t : T) (a : A) → f t ≡ Some a → has f t ≡ true
has_some f t a h = ap (λ (o : Option _). elim o as (λ _. Bool) [ None ↦ false | Some a ↦ true ]) h

-- ---- one set or another

or_cases : (a b c : Bool) → (a || b) ≡ c → (a ≡ c) ⊎ (b ≡ c)
or_cases true b c h = inl h
or_cases false b c h = inr h

or_both : (a b : Bool) → a ≡ false → b ≡ false → (a || b) ≡ false
or_both true b h k = absurd (let bad : true ≡ false = h in cc)
or_both false b h k = k

pub apart_or : {T : Type 0} {one two set : T → Bool} → Apart one set → Apart two set → Apart (λ t. one t || two t) set
apart_or {T} {one} {two} {set} p q t h = cases (or_cases (one t) (two t) true h)
  where
    cases : (one t ≡ true) ⊎ (two t ≡ true) → set t ≡ false
    cases (inl so) = p t so
    cases (inr so) = q t so

pub covers_or : {T : Type 0} {one two set : T → Bool} → Covers set one → Covers set two → Covers set (λ t. one t || two t)
covers_or {T} {one} {two} {set} p q t h = or_both (one t) (two t) (p t h) (q t h)

-- What closes, where one of two sets does.
pub closes_or : {T : Type 0} (one two set : T → Bool) (b : Bool) → ((t : T) → inside one t ≡ false → set t ≡ b) → ((t : T) → inside two t ≡ false → set t ≡ b) → (t : T) → inside (λ t. one t || two t) t ≡ false → set t ≡ b
closes_or {T} one two set b p q t h = cases (one t) refl (two t) refl
  where
    cases : (a : Bool) → one t ≡ a → (c : Bool) → two t ≡ c → set t ≡ b
    cases true so c is = p t (ap not so)
    cases false not_so true so = q t (ap not so)
    cases false not_so false not_either = let bad : true ≡ false = sym (ap not (or_both (one t) (two t) not_so not_either)) ∙ h in absurd cc
