-- A rule of naming: a plan that hands on the next fresh number.
use Rattle.std.specs.Prelude.{◌≡◌, ℕ, Result, Ok, Err}
use Rattle.plan.specs.Plan.{Told, Given, Refused}
use Rattle.plan.specs.Ruled.{Ruled}
use Rattle.eql_naming.specs.declared.refusal.NameRule.{NameRule}
use Rattle.eql_naming.specs.declared.refusal.NameRefusal.{NameRefusal}
use Rattle.eql_naming.specs.declared.refusal.NameRefusal.TheVariants as refusal

abbrev pub Naming : Type 0 → Type 1
Naming A = Ruled NameRefusal ℕ A

-- the code's answer and the next fresh number are what the rules tell
abbrev pub Answers : {A : Type 0} → Told NameRefusal (A × ℕ) → Result A NameRefusal → ℕ → Type 0
Answers told (Ok a) next = told ≡ Given (a, next)
Answers told (Err refusal.Memory) next = Unit {0}
Answers told (Err (refusal.Rule rule byte)) next = told ≡ Refused (refusal.Rule rule byte)
