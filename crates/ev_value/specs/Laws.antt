-- The laws of lists of items.
use Rattle.std.specs.Prelude.{◌≡◌, Bool, false, IsTrue, List, ◌++◌}
use Rattle.ev_value.specs.Item.{bind, one, collect, faults, only_faults, values}
use Rattle.ev_value.specs.Stands.{StandsFor, Alike}
use Rattle.ev_value.specs.declared.item.Item.{Item}

-- loops may be joined: a loop over a loop is one loop, a loop over one value is what it gives there, a loop that gives
-- each value alone changes nothing, and a loop over two lists is one over each
pub record BindIsLawful (A B C : Type 0) : Type 0 where
  pub joined : (xs : List (Item A)) (f : A → List (Item B)) (g : B → List (Item C)) → bind (bind xs f) g ≡ bind xs (λ a. bind (f a) g)
  pub over_one : (a : A) (f : A → List (Item B)) → bind (one a) f ≡ f a
  pub of_one : (xs : List (Item A)) → bind xs one ≡ xs
  pub over_two : (xs ys : List (Item A)) (f : A → List (Item B)) → bind (xs ++ ys) f ≡ bind xs f ++ bind ys f

-- what stands for a list stands for it in a loop, beside another, in what is made of all values, as faults alone, and for a
-- weaker relation; with equal values and no fault left out it is that list;
-- here two values are related where a test says so
pub record StandingIsLawful (A B C D : Type 0) : Type 0 where
  pub looped : (may : Bool) (r : A → B → Bool) (s : C → D → Bool) (xs : List (Item A)) (ys : List (Item B)) (f : A → List (Item C)) (g : B → List (Item D))
      → StandsFor may (λ a b. IsTrue (r a b)) xs ys → ((a : A) (b : B) → IsTrue (r a b) → StandsFor may (λ c d. IsTrue (s c d)) (f a) (g b)) → StandsFor may (λ c d. IsTrue (s c d)) (bind xs f) (bind ys g)
  pub joined : (may : Bool) (r : A → B → Bool) (xs more : List (Item A)) (ys rest : List (Item B))
      → StandsFor may (λ a b. IsTrue (r a b)) xs ys → StandsFor may (λ a b. IsTrue (r a b)) more rest → StandsFor may (λ a b. IsTrue (r a b)) (xs ++ more) (ys ++ rest)
  pub told : (may : Bool) (r : A → B → Bool) (s : C → D → Bool) (xs : List (Item A)) (ys : List (Item B))
      → StandsFor may (λ a b. IsTrue (r a b)) xs ys → StandsFor may (λ c d. IsTrue (s c d)) (only_faults (faults xs)) (only_faults (faults ys))
  pub collected : (may : Bool) (r : A → B → Bool) (s : C → D → Bool) (xs : List (Item A)) (ys : List (Item B)) (f : List A → List (Item C)) (g : List B → List (Item D))
      → StandsFor may (λ a b. IsTrue (r a b)) xs ys → (Alike (λ a b. IsTrue (r a b)) (values xs) (values ys) → StandsFor may (λ c d. IsTrue (s c d)) (f (values xs)) (g (values ys)))
      → StandsFor may (λ c d. IsTrue (s c d)) (collect f xs) (collect g ys)
  pub weaker : (may : Bool) (r s : A → B → Bool) (xs : List (Item A)) (ys : List (Item B)) → ((a : A) (b : B) → IsTrue (r a b) → IsTrue (s a b)) → StandsFor may (λ a b. IsTrue (r a b)) xs ys → StandsFor may (λ a b. IsTrue (s a b)) xs ys
  pub equal : (xs ys : List (Item A)) → StandsFor false (λ (a b : A). a ≡ b) xs ys → xs ≡ ys
