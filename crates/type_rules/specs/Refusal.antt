-- What is answered where rules tell something.
use Rattle.std.specs.Prelude.{◌≡◌, Result, Ok, Err}
use Rattle.plan.specs.Plan.{Told, Given, Refused}
use Rattle.type_rules.specs.declared.refusal.TypeRefusal.{TypeRefusal}
use Rattle.type_rules.specs.declared.refusal.TypeRefusal.TheVariants as refusal

-- a result, and what is handed on then, are what rules tell, unless memory runs out
abbrev pub Answers : {A S : Type 0} → Told TypeRefusal (A × S) → Result A TypeRefusal → S → Type 0
Answers told (Ok a) now = told ≡ Given (a, now)
Answers told (Err refusal.Memory) now = Unit {0}
Answers told (Err r) now = told ≡ Refused r
