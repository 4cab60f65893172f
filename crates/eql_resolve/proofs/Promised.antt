-- From what the rules tell to what naming promises.
use Rattle.std.proofs.Common.{◌≡◌, ◌∙◌, ℕ, Ok, Err, ap}
use Rattle.plan.specs.Plan.{Plan, Part, Given, Refused, and_then, tells}
use Rattle.plan.proofs.Plans.{given_derives, refused_fails, one_result, fails_alone}
use Rattle.eql_naming.specs.declared.refusal.NameRefusal.{NameRefusal}
use Rattle.eql_naming.specs.declared.refusal.NameRefusal.TheVariants as refusal
use Rattle.eql_naming.specs.Naming.{Answers}
use Rattle.eql_resolve.specs.Verdict.{Promises}

promised_given : {A : Type 0} (p : Plan NameRefusal A) (a : A) → tells p ≡ Given a → Promises p (Ok a)
promised_given p a h = record { holds = given_derives p a h; only = λ b d. one_result _ _ p a b (given_derives p a h) d }

pub promised_memory : {A : Type 0} (p : Plan NameRefusal A) → Promises p (Err refusal.Memory)
promised_memory p = record { holds = tt; only = λ b d. tt }

-- an answer made of the answer of a part
pub promised_of_part : {A B : Type 0} (p : Plan NameRefusal B) (k : B → Plan NameRefusal A) (b : B) (a : A) → tells p ≡ Given b → tells (k b) ≡ Given a → Promises (Part p k) (Ok a)
promised_of_part p k b a h g = promised_given (Part p k) a (ap (λ t. and_then t (λ x. tells (k x))) h ∙ g)

-- a part's refusal
pub promised_refusal : {A B : Type 0} (p : Plan NameRefusal (B × ℕ)) (k : B × ℕ → Plan NameRefusal A) (r : NameRefusal) (n : ℕ) → Answers {A = B} (tells p) (Err r) n → Promises (Part p k) (Err r)
promised_refusal p k refusal.Memory n h = promised_memory (Part p k)
promised_refusal p k (refusal.Rule rule byte) n h =
    let e : tells (Part p k) ≡ Refused (refusal.Rule rule byte) = ap (λ t. and_then t (λ x. tells (k x))) h in
    let f = refused_fails (Part p k) (refusal.Rule rule byte) e in
    record { holds = f; only = λ b d. fails_alone _ _ (Part p k) (refusal.Rule rule byte) b f d }
