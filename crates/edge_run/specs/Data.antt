-- Which texts are data for a schema, and why the others are refused.
use Rattle.std.specs.Prelude.{◌≡◌, ℕ, List, Result, Ok, Err}
use Rattle.db_load.specs.Data.{IsLoaded}
use Rattle.ev_schema.specs.declared.schema.Schema.{Schema}
use Rattle.db_draft.specs.declared.refusal.Broken.{Broken}
use Rattle.db_draft.specs.declared.refusal.DataRefusal.TheVariants as load
use Rattle.db_check.specs.declared.store.Store.{Store}
use Rattle.edge_run.specs.Refusal.{Refusal}
use Rattle.edge_run.specs.Refusal as refused

-- the text is loaded as this store
abbrev pub IsStore : Schema → List ℕ → Store → Type 0
IsStore schema text store = IsLoaded text schema (Ok store)

-- of the rules on data this one fails first
abbrev pub IsRefused : Schema → List ℕ → Broken → Type 0
IsRefused schema text broken = IsLoaded text schema (Err (load.Rule broken))

-- what the rules on data decide: the store, or a refusal
abbrev pub Decides : Schema → List ℕ → Result Store Refusal → Type 0
Decides schema text (Ok store) = IsStore schema text store
Decides schema text (Err (refused.Usage u)) = ⊥
Decides schema text (Err (refused.TooLong d)) = ⊥
Decides schema text (Err (refused.Schema r)) = ⊥
Decides schema text (Err (refused.Data broken)) = IsRefused schema text broken
Decides schema text (Err (refused.Query r)) = ⊥
Decides schema text (Err (refused.Args b)) = ⊥
