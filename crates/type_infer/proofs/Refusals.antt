-- What is told of a whole, by what is told of its first part.
use Rattle.std.proofs.Common.{◌≡◌, Result, Ok, Err, refl, ap, sym, ◌∙◌, subst}
use Rattle.plan.specs.Plan.{Told, Given, Refused, and_then, tells}
use Rattle.type_rules.specs.declared.refusal.TypeRefusal.{TypeRefusal}
use Rattle.type_rules.specs.declared.refusal.TypeRefusal.TheVariants as refusal
use Rattle.type_rules.specs.Known.{Known}
use Rattle.type_rules.specs.Steps.{Plain}
use Rattle.type_infer.specs.Known.{plain}
use Rattle.type_rules.specs.Refusal.{Answers}

-- of three parts in turn, the last two or the first two are taken together
pub and_then_assoc : {R A B C : Type 0} (t : Told R A) (g : A → Told R B) (h : B → Told R C) → and_then (and_then t g) h ≡ and_then t (λ a. and_then (g a) h)
and_then_assoc (Given a) g h = refl
and_then_assoc (Refused r) g h = refl

-- what a rule tells that needs nothing to be known
pub plainly : {A : Type 0} (m : Plain A) (result : Result A TypeRefusal) (k : Known) → Answers (tells (m tt)) result tt → Answers (tells (plain m k)) result k
plainly m (Ok a) k h = ap (λ t. and_then t (λ x. Given (x.0, k))) h
plainly m (Err refusal.Memory) k h = tt
plainly m (Err (refusal.Rule r byte)) k h = ap (λ t. and_then t (λ x. Given (x.0, k))) h
plainly m (Err (refusal.Needs p)) k h = ap (λ t. and_then t (λ x. Given (x.0, k))) h

-- A part that is refused, and what is told of the whole by what is told of the part.
pub refused_first : {A B : Type 0} (whole : Told TypeRefusal (B × Known)) (part : Told TypeRefusal (A × Known)) (rest : A × Known → Told TypeRefusal (B × Known)) (r : TypeRefusal) (k l : Known)
    → whole ≡ and_then part rest → Answers {A = A} part (Err r) k → Answers {A = B} whole (Err r) l
refused_first whole part rest refusal.Memory k l e h = tt
refused_first whole part rest (refusal.Rule rule byte) k l e h = e ∙ ap (λ t. and_then t rest) h
refused_first whole part rest (refusal.Needs p) k l e h = e ∙ ap (λ t. and_then t rest) h

pub given_first : {A B : Type 0} (whole : Told TypeRefusal (B × Known)) (part : Told TypeRefusal (A × Known)) (rest : A × Known → Told TypeRefusal (B × Known)) (a : A) (result : Result B TypeRefusal) (k l : Known)
    → whole ≡ and_then part rest → part ≡ Given (a, k) → Answers (rest (a, k)) result l → Answers whole result l
given_first whole part rest a result k l e h then = subst (λ t. Answers t result l) (sym (e ∙ ap (λ t. and_then t rest) h)) then
