-- The store that a text writes, or why it is refused.
use Rattle.std.specs.Prelude.{◌≡◌, ◌⊎◌, ℕ, List, Option, Some, None, Result, Err}
use Rattle.serde_json.specs.Data.{Data}
use Rattle.ev_schema.specs.declared.schema.Schema.{Schema}
use Rattle.db_draft.specs.Told.{told}
use Rattle.db_draft.specs.declared.draft.ObjectDraft.{ObjectDraft}
use Rattle.db_draft.specs.declared.refusal.DataRefusal.{DataRefusal}
use Rattle.db_draft.specs.declared.refusal.DataRefusal.TheVariants as refusal
use Rattle.db_draft.specs.declared.refusal.Rule.{Rule}
use Rattle.db_draft.specs.declared.refusal.Rule.TheVariants as rule
use Rattle.db_check.specs.Check.{checked}
use Rattle.db_check.specs.declared.store.Store.{Store}
use Rattle.db_load.specs.Document.{document}
use Rattle.db_load.specs.Text.{Says}

-- a rule on the text as a whole that fails
abbrev pub at_text : Rule → DataRefusal
at_text r = refusal.Rule (record { rule = r; object = None; other = None })

-- the store of a document's objects, or why it is refused; without a document X2 fails
abbrev pub stored : Schema → Option (List ObjectDraft) → Result Store DataRefusal
stored s None = Err (at_text rule.X2)
stored s (Some ds) = told (checked s ds)

-- What a text loads as: X1 fails where it is no JSON; else its value is the store, or refused. Want of memory may come anywhere.
abbrev pub IsLoaded : List ℕ → Schema → Result Store DataRefusal → Type 0
IsLoaded text s result =
    (result ≡ Err refusal.Memory)
    ⊎ (((d : Data) × Says text d × (result ≡ stored s (document d)))
    ⊎ (((d : Data) → Says text d → ⊥) × (result ≡ Err (at_text rule.X1))))
