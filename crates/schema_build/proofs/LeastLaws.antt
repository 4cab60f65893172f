-- The lesser of bytes, however they are grouped.
use Rattle.std.proofs.Common.{◌≡◌, ℕ, Option, Some, None, refl, rules}
use Rattle.schema_build.specs.Least.{sooner}

pub sooner_none : (a : Option ℕ) → sooner a None ≡ a
sooner_none None = refl
sooner_none (Some a) = refl

pub sooner_assoc : (a b c : Option ℕ) → sooner (sooner a b) c ≡ sooner a (sooner b c)
sooner_assoc None b c = refl
sooner_assoc (Some a) None c = refl
sooner_assoc (Some a) (Some b) None = sooner_none (sooner (Some a) (Some b))
sooner_assoc (Some a) (Some b) (Some c) = search rules
