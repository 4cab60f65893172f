-- From what the code tells to what it promises.
use Rattle.std.proofs.Common.{Result, Ok, Err}
use Rattle.plan.specs.Plan.{Plan, tells}
use Rattle.plan.proofs.Plans.{given_derives, refused_fails, one_result, fails_alone}
use Rattle.type_rules.specs.declared.refusal.TypeRefusal.{TypeRefusal}
use Rattle.type_rules.specs.declared.refusal.TypeRefusal.TheVariants as refusal
use Rattle.type_infer.specs.Verdict.{IsTold, Promises}

pub promised : {A : Type 0} (p : Plan TypeRefusal A) (result : Result A TypeRefusal) → IsTold (tells p) result → Promises p result
promised p (Ok a) h = record { holds = given_derives p a h; only = λ b d. one_result _ _ p a b (given_derives p a h) d }
promised p (Err refusal.Memory) h = record { holds = tt; only = λ b d. tt }
promised p (Err (refusal.Rule rule byte)) h =
    let r = refusal.Rule rule byte in
    record { holds = refused_fails p r h; only = λ b d. fails_alone _ _ p r b (refused_fails p r h) d }
promised p (Err (refusal.Needs pointer)) h =
    let r = refusal.Needs pointer in
    record { holds = refused_fails p r h; only = λ b d. fails_alone _ _ p r b (refused_fails p r h) d }
