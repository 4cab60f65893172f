-- Rules over what is known from the places before.
use Rattle.std.specs.Prelude.{Bool, true, not, ◌&&◌, if◌then◌else◌, Option, Some, None}
use Rattle.ev_list.specs.declared.param.Param.{Param}
use Rattle.plan.specs.Plan.{Given, Says, Part}
use Rattle.plan.specs.Ruled.{Ruled}
use Rattle.type_rules.specs.declared.refusal.TypeRefusal.{TypeRefusal}
use Rattle.type_rules.specs.Agreement.{same_scalar}
use Rattle.type_rules.specs.Known.{Known}
use Rattle.type_rules.specs.Steps.{Plain}

-- whether a parameter has the type that the same one has elsewhere, and may be absent where that one may
abbrev pub suits : Param → Option Param → Bool
suits p None = true
suits p (Some q) = same_scalar p.ty q.ty && (if p.optional then q.optional else not q.optional)

-- a rule of types: over what is known it gives a result and what is known then, or is refused
abbrev pub Typing : Type 0 → Type 1
Typing A = Ruled TypeRefusal Known A

-- a rule that needs nothing to be known, among those over what is known, which stays as it is
abbrev pub plain : {A : Type 0} → Plain A → Typing A
plain m = λ known. Part (m tt) (λ x. Says (Given (x.0, known)))

-- something of what is known
abbrev pub look : {A : Type 0} → (Known → A) → Typing A
look f = λ known. Says (Given (f known, known))

-- from here on more is known
abbrev pub note : (Known → Known) → Typing (Unit {0})
note f = λ known. Says (Given (tt, f known))
