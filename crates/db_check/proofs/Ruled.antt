-- What a check answers.
use Rattle.std.proofs.Common.{◌≡◌, inl, inr, Option, Some, None, Result, Ok, Err, refl, ap}
use Rattle.db_draft.specs.Told.{IsAnswer, ruled, told}
use Rattle.db_draft.specs.declared.refusal.Broken.{Broken}
use Rattle.db_draft.specs.declared.refusal.DataRefusal.TheVariants as refusal

-- a rule that fails is the answer
pub ruled_some : {A : Type 0} (o : Option Broken) (b : Broken) (due : A) → Some b ≡ o → IsAnswer (Err (refusal.Rule b)) (ruled o due)
ruled_some o b due e = inr (ap (λ o. ruled o due) e)

-- where none fails, the value is
pub ruled_none : {A : Type 0} (o : Option Broken) (due : A) → None ≡ o → IsAnswer (Ok due) (ruled o due)
ruled_none o due e = inr (ap (λ o. ruled o due) e)

-- where a value is the answer, none fails
pub none_ruled : (o : Option Broken) → IsAnswer {A = Unit {0}} (Ok tt) (ruled o tt) → o ≡ None
none_ruled o (inl memory) = absurd (cc)
none_ruled None (inr is) = refl
none_ruled (Some b) (inr is) = absurd (cc)

-- a value that is told is due
pub is_told : {A : Type 0} (r : Result A Broken) (x : A) → IsAnswer (Ok x) (told r) → r ≡ Ok x
is_told r x (inl memory) = absurd (cc)
is_told (Ok due) x (inr is) = cc
is_told (Err b) x (inr is) = absurd (cc)
