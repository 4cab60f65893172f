-- What is true of all plans.
use Rattle.std.specs.Prelude.{◌≡◌, ◌⊎◌}
use Rattle.plan.specs.Plan.{Plan, Derives, Fails}

-- each plan has a derivation or a first failure
abbrev pub Decides : Type 1
Decides = (R A : Type 0) (p : Plan R A) → ((a : A) × Derives p a) ⊎ ((r : R) × Fails p r)

-- at most one result has a derivation
abbrev pub HasOneResult : Type 1
HasOneResult = (R A : Type 0) (p : Plan R A) (a b : A) → Derives p a → Derives p b → a ≡ b

-- there is at most one first failure
abbrev pub HasOneFailure : Type 1
HasOneFailure = (R A : Type 0) (p : Plan R A) (r q : R) → Fails p r → Fails p q → r ≡ q

-- what fails has no derivation
abbrev pub FailsAlone : Type 1
FailsAlone = (R A : Type 0) (p : Plan R A) (r : R) (a : A) → Fails p r → Derives p a → ⊥
