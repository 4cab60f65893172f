-- Rules that hand something on from part to part, as a count of fresh numbers or what the parts before had.
use Rattle.std.specs.Prelude.{ℕ, ◌+◌, Bool, true, false, List, [], ◌∷◌, ◌++◌, Option, Some, None}
use Rattle.plan.specs.Plan.{Given, Refused, Plan, Says, Part}

-- a plan over what was handed on, with what it hands on itself
abbrev pub Ruled : Type 0 → Type 0 → Type 0 → Type 1
Ruled R S A = S → Plan R (A × S)

infixl 10 ◌>>=◌
abbrev pub ◌>>=◌ : {R S A B : Type 0} → Ruled R S A → (A → Ruled R S B) → Ruled R S B
m >>= f = λ s. Part (m s) (λ x. f x.0 x.1)

infixl 10 ◌>>◌
abbrev pub ◌>>◌ : {R S A B : Type 0} → Ruled R S A → Ruled R S B → Ruled R S B
m >> f = m >>= (λ _. f)

abbrev pub gives : {R S A : Type 0} → A → Ruled R S A
gives a = λ s. Says (Given (a, s))

abbrev pub refuses : {R S A : Type 0} → R → Ruled R S A
refuses r = λ s. Says (Refused r)

-- where it does not hold it fails so
abbrev pub must : {R S : Type 0} → Bool → R → Ruled R S (Unit {0})
must true r = gives tt
must false r = refuses r

-- where there is none it fails so
abbrev pub known : {R S A : Type 0} → Option A → R → Ruled R S A
known (Some a) r = gives a
known None r = refuses r

-- the next fresh number
abbrev pub fresh : {R : Type 0} → Ruled R ℕ ℕ
fresh = λ n. Says (Given (n, n + 1))

-- each item by a rule that sees what the items before it became
abbrev pub each_with : {R S X Y : Type 0} → (List Y → X → Ruled R S Y) → List Y → List X → Ruled R S (List Y)
each_with f done [] = gives done
each_with f done (x ∷ xs) = f done x >>= (λ y. each_with f (done ++ y ∷ []) xs)

-- what each item in turn makes of what there is so far
abbrev pub in_turn : {R S X A : Type 0} → (A → X → Ruled R S A) → A → List X → Ruled R S A
in_turn f a [] = gives a
in_turn f a (x ∷ xs) = f a x >>= (λ b. in_turn f b xs)
