-- Two truths together, and one of two.
use Rattle.std.proofs.Common.{◌≡◌, IsTrue, ◌&&◌, ◌||◌, Bool, true, false, refl}

pub first_true : (a b : Bool) → IsTrue (a && b) → IsTrue a
first_true true b h = refl
first_true false b h = h

pub second_true : (a b : Bool) → IsTrue (a && b) → IsTrue b
second_true true b h = h
second_true false b h = let clash : false ≡ true = h in absurd cc

pub two_true : (a b : Bool) → IsTrue a → IsTrue b → IsTrue (a && b)
two_true true b h r = r
two_true false b h r = let clash : false ≡ true = h in absurd cc

pub either_true : {C : Type 0} (a b : Bool) → IsTrue (a || b) → (IsTrue a → C) → (IsTrue b → C) → C
either_true true b h f g = f h
either_true false b h f g = g h
