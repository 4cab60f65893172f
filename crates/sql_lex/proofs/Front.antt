-- Two ways to cut one list in two.
use Rattle.std.proofs.Common.{◌≡◌, ℕ, List, [], ◌∷◌, ◌++◌, refl, sym}

pub data Compare (f r g s : List ℕ) : Type 0 where
  Same : f ≡ g → r ≡ s → Compare f r g s
  Shorter : (b : ℕ) (more : List ℕ) → g ≡ f ++ b ∷ more → r ≡ (b ∷ more) ++ s → Compare f r g s
  Longer : (b : ℕ) (more : List ℕ) → f ≡ g ++ b ∷ more → s ≡ (b ∷ more) ++ r → Compare f r g s

behind : {f r g s : List ℕ} (a b : ℕ) → a ≡ b → Compare f r g s → Compare (a ∷ f) r (b ∷ g) s
behind a b e (Same p q) = Same (cc) q
behind a b e (Shorter c more p q) = Shorter c more (cc) q
behind a b e (Longer c more p q) = Longer c more (cc) q

pub compare : (f r g s : List ℕ) → f ++ r ≡ g ++ s → Compare f r g s
compare [] r [] s e = Same refl e
compare [] r (b ∷ g) s e = Shorter b g refl e
compare (a ∷ f) r [] s e = Longer a f refl (sym e)
compare (a ∷ f) r (b ∷ g) s e = behind a b (cc) (compare f r g s (cc))
