-- What a check answers.
use Rattle.std.specs.Prelude.{◌≡◌, ◌⊎◌, Option, Some, None, Result, Ok, Err}
use Rattle.db_draft.specs.declared.refusal.Broken.{Broken}
use Rattle.db_draft.specs.declared.refusal.DataRefusal.{DataRefusal}
use Rattle.db_draft.specs.declared.refusal.DataRefusal.TheVariants as refusal

-- the rule that fails, and else the value that is due
abbrev pub ruled : {A : Type 0} → Option Broken → A → Result A DataRefusal
ruled None due = Ok due
ruled (Some b) due = Err (refusal.Rule b)

-- The answer is this one, or memory ran out.
abbrev pub IsAnswer : {A : Type 0} → Result A DataRefusal → Result A DataRefusal → Type 0
IsAnswer result due = (result ≡ Err refusal.Memory) ⊎ (result ≡ due)

-- the value, or the rule that fails
abbrev pub told : {A : Type 0} → Result A Broken → Result A DataRefusal
told (Ok due) = Ok due
told (Err b) = Err (refusal.Rule b)
