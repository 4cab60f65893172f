-- Sets of paths, as one more path is put into them.
use Rattle.std.proofs.Common.{◌≡◌, Bool, true, false, not, ◌&&◌, ◌||◌, List, [], ◌∷◌, ◌++◌, cond, refl, sym, ◌∙◌}
use Rattle.std.specs.List.{list_any}
use Rattle.std.proofs.lemmas.List.Folds.{list_any-append}
use Rattle.core_ir.specs.declared.path.Path.{Path}
use Rattle.core_ir.specs.Path.{path_eq}
use Rattle.path_scope.specs.Beginning.{path_equivalence}

put_by : (b c : Bool) → cond b true c ≡ (c || (b || false))
put_by true true = refl
put_by true false = refl
put_by false true = refl
put_by false false = refl

module _ {X : Type 0} (path_of : X → Path) where
  -- a set has the paths of a list and one more
  pub one_more : (f g : Path → Bool) (k : Path) (xs : List X) (x : X) (p : Path) → f p ≡ cond (path_eq k p) true (g p) → k ≡ path_of x → g p ≡ list_any (λ y. path_eq p (path_of y)) xs
      → f p ≡ list_any (λ y. path_eq p (path_of y)) (xs ++ x ∷ [])
  one_more f g k xs x p new key old =
      new
      ∙ (λ i. cond (path_equivalence.symm (key i) p i) true (old i))
      ∙ put_by (path_eq p (path_of x)) (list_any (λ y. path_eq p (path_of y)) xs)
      ∙ sym (list_any-append (λ y. path_eq p (path_of y)) xs (x ∷ []))

pub binds_then : (j k b : Bool) → j ≡ k → j ≡ true → not b ≡ (k && not b)
binds_then j true b e h = refl
binds_then j false b e h = absurd cc

pub binds_else : (j k b : Bool) → j ≡ k → j ≡ false → j ≡ (k && not b)
binds_else j true b e h = absurd cc
binds_else j false b e h = h
