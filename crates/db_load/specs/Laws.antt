-- What holds of each text, and of a store that is loaded from one.
use Rattle.std.specs.Prelude.{◌≡◌, ℕ, List, Result, Ok, Err}
use Rattle.ev_list.specs.declared.param.Param.{Param}
use Rattle.ev_schema.specs.declared.schema.Schema.{Schema}
use Rattle.ev_value.specs.declared.args.Args.{Args}
use Rattle.db_draft.specs.declared.refusal.DataRefusal.{DataRefusal}
use Rattle.db_draft.specs.declared.refusal.DataRefusal.TheVariants as refusal
use Rattle.db_store.specs.Fits.{Fits}
use Rattle.db_check.specs.Laws.{IsWellFormedSchema}
use Rattle.db_check.specs.declared.store.Store.{Store}
use Rattle.db_load.specs.Arguments as arguments
use Rattle.db_load.specs.Data.{IsLoaded}
use Rattle.db_load.specs.declared.refusal.ArgsRefusal.{ArgsRefusal}
use Rattle.db_load.specs.declared.refusal.ArgsRefusal.TheVariants as args_refusal

-- the objects that are loaded from a text fit the schema
abbrev pub LoadedObjectsFit : Type 0
LoadedObjectsFit = (text : List ℕ) (s : Schema) (st : Store) → IsWellFormedSchema s → IsLoaded text s (Ok st) → Fits s st.objects

-- the text is loaded as data, or refused, and not for want of memory
abbrev pub IsDecided : List ℕ → Schema → Type 0
IsDecided text s = (result : Result Store DataRefusal) × (result ≡ Err refusal.Memory → ⊥) × IsLoaded text s result

-- the text is loaded as arguments, or refused, and not for want of memory
abbrev pub AreDecided : List ℕ → Schema → List Param → Type 0
AreDecided text s ps = (result : Result Args ArgsRefusal) × (result ≡ Err args_refusal.Memory → ⊥) × arguments.IsLoaded text s ps result
