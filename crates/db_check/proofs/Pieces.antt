-- Lists that are joined of pieces of one element at most.
use Rattle.std.proofs.Common.{◌≡◌, Bool, true, List, [], ◌∷◌, ◌++◌, flat_map}
use Rattle.db_store.specs.Fits.{Each, Ascend}
use Rattle.db_check.proofs.Repeats.{each_joined}

-- one element at most, and R holds of it
abbrev pub OneAtMost : {B : Type 0} → (B → Type 0) → List B → Type 0
OneAtMost R [] = Unit {0}
OneAtMost R (b ∷ []) = R b
OneAtMost R (b ∷ c ∷ more) = ⊥

pub each_flat : {A B : Type 0} (f : A → List B) (P : A → Type 0) (Q : B → Type 0) → ((a : A) → P a → Each Q (f a)) → (xs : List A) → Each P xs → Each Q (flat_map f xs)
each_flat f P Q step [] h = tt
each_flat f P Q step (x ∷ more) h = each_joined Q (f x) (flat_map f more) (step x h.0) (each_flat f P Q step more h.1)

each_one : {B : Type 0} (R Q : B → Type 0) → ((b : B) → R b → Q b) → (l : List B) → OneAtMost R l → Each Q l
each_one R Q step [] h = tt
each_one R Q step (b ∷ []) h = (step b h, tt)
each_one R Q step (b ∷ c ∷ more) h = absurd h

module _ {A B : Type 0} (f : A → List B) (R : A → B → Type 0) (one : (a : A) → OneAtMost (R a) (f a)) (early : A → A → Bool) (late : B → B → Bool)
    (step : (a c : A) (b d : B) → R a b → R c d → early a c ≡ true → late b d ≡ true) where
  first : (l rest : List B) (P : B → Type 0) → OneAtMost P l → ((b : B) → P b → Each (λ d. late b d ≡ true) rest) → Ascend late rest → Ascend late (l ++ rest)
  first [] rest P h before up = up
  first (b ∷ []) rest P h before up = (before b h, up)
  first (b ∷ c ∷ more) rest P h before up = absurd h

  -- it ascends where what it is made of does
  pub ascend_flat : (xs : List A) → Ascend early xs → Ascend late (flat_map f xs)
  ascend_flat [] up = tt
  ascend_flat (x ∷ more) up =
      first (f x) (flat_map f more) (R x) (one x)
      (λ b r. each_flat f (λ c. early x c ≡ true) (λ d. late b d ≡ true) (λ c e. each_one (R c) (λ d. late b d ≡ true) (λ d q. step x c b d r q e) (f c) (one c)) more up.0)
      (ascend_flat more up.1)
