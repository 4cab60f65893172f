-- What typing promises of its answer.
use Rattle.std.specs.Prelude.{◌≡◌, Result, Ok, Err}
use Rattle.plan.specs.Plan.{Told, Given, Refused, Plan, Derives, Fails}
use Rattle.type_rules.specs.declared.refusal.TypeRefusal.{TypeRefusal}
use Rattle.type_rules.specs.declared.refusal.TypeRefusal.TheVariants as refusal

-- What is answered has a derivation, and a refusal but for want of memory is the first failure.
abbrev pub Holds : {A : Type 0} → Plan TypeRefusal A → Result A TypeRefusal → Type 0
Holds p (Ok a) = Derives p a
Holds p (Err refusal.Memory) = Unit {0}
Holds p (Err r) = Fails p r

-- What has a derivation is answered, unless memory runs out.
abbrev pub IsAnswered : {A : Type 0} → A → Result A TypeRefusal → Type 0
IsAnswered a (Ok b) = b ≡ a
IsAnswered a (Err refusal.Memory) = Unit {0}
IsAnswered a (Err r) = ⊥

-- a result keeps what a plan promises
pub record Promises {A : Type 0} (p : Plan TypeRefusal A) (result : Result A TypeRefusal) : Type 0 where
  pub holds : Holds p result
  pub only : (a : A) → Derives p a → IsAnswered a result

-- a result is what rules tell that hand nothing on, unless memory runs out
abbrev pub IsTold : {A : Type 0} → Told TypeRefusal A → Result A TypeRefusal → Type 0
IsTold told (Ok a) = told ≡ Given a
IsTold told (Err refusal.Memory) = Unit {0}
IsTold told (Err r) = told ≡ Refused r
