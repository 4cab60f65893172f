-- Each element of a list is an element of it.
use Rattle.std.proofs.Common.{suc, List, [], ◌∷◌, refl, arith}
use Rattle.std.specs.List.{Contains}
use Rattle.db_store.specs.Fits.{Each}
use Rattle.db_check.proofs.IdOrder.{each_more}

contains_later : {A : Type 0} (y : A) (xs : List A) (x : A) → Contains xs x → Contains (y ∷ xs) x
contains_later y xs x h = (suc h.0, omega arith, h.2)

pub each_contained : {A : Type 0} (xs : List A) → Each (Contains xs) xs
each_contained [] = tt
each_contained (x ∷ xs) = ((0, omega arith, refl), each_more (Contains xs) (Contains (x ∷ xs)) (contains_later x xs) xs (each_contained xs))
