-- What the words of a command line ask for.
use Rattle.std.specs.Prelude.{◌≡◌, ◌≢◌, ℕ, List, [], ◌∷◌, Option, Some, None, ◌⊎◌, codes}
use Rattle.edge_run.specs.declared.outcome.Doc.{Doc}
use Rattle.edge_run.specs.declared.outcome.Doc.TheVariants as doc
use Rattle.edge_run.specs.declared.outcome.UsageRule.{UsageRule}
use Rattle.edge_run.specs.declared.outcome.UsageRule.TheVariants as rule
use Rattle.edge_run.specs.Refusal.{Refusal, Usage, TooLong, Schema, Data, Query, Args}

-- A mode with the names of the documents that it reads: `const` reads a query, `check` a schema and data, `run` these and a query, and
-- arguments where they are named.
pub data Task : Type 0 where
  Const : List ℕ → Task
  Check : List ℕ → List ℕ → Task
  Run : List ℕ → List ℕ → List ℕ → Option (List ℕ) → Task

-- the words MODE, SCHEMA, DATA and QUERY, and `--args` with the word behind it where arguments are given
abbrev pub words_of : List ℕ → List ℕ → List ℕ → List ℕ → Option (List ℕ) → List (List ℕ)
words_of mode schema_name data_name query None = mode ∷ schema_name ∷ data_name ∷ query ∷ []
words_of mode schema_name data_name query (Some args) = mode ∷ schema_name ∷ data_name ∷ query ∷ codes "--args" ∷ args ∷ []

-- The words ask for the task. A word that the mode does not need is not looked at.
abbrev pub Asks : List (List ℕ) → Task → Type 0
Asks words (Const query) =
    (schema_name data_name : List ℕ) × (args : Option (List ℕ)) × (words ≡ words_of (codes "const") schema_name data_name query args)
Asks words (Check schema_name data_name) =
    (query : List ℕ) × (args : Option (List ℕ)) × (words ≡ words_of (codes "check") schema_name data_name query args)
Asks words (Run schema_name data_name query args) = words ≡ words_of (codes "run") schema_name data_name query args

-- The first rule of the command line that fails: the words are not of that form, or the first is no mode.
abbrev pub FailsUsage : UsageRule → List (List ℕ) → Type 0
FailsUsage rule.U1 words = (mode schema_name data_name query : List ℕ) (args : Option (List ℕ)) → words ≢ words_of mode schema_name data_name query args
FailsUsage rule.U2 words =
    (mode schema_name data_name query : List ℕ) × (args : Option (List ℕ)) × (words ≡ words_of mode schema_name data_name query args)
    × (mode ≢ codes "const") × (mode ≢ codes "check") × (mode ≢ codes "run")

-- arguments are named
abbrev pub AreNamed : Option (List ℕ) → Type 0
AreNamed None = ⊥
AreNamed (Some name) = Unit {0}

-- the task reads the document
abbrev pub Reads : Task → Doc → Type 0
Reads (Const query) d = d ≡ doc.Query
Reads (Check schema_name data_name) d = (d ≡ doc.Schema) ⊎ (d ≡ doc.Data)
Reads (Run schema_name data_name query args) d =
    (d ≡ doc.Schema) ⊎ ((d ≡ doc.Data) ⊎ ((d ≡ doc.Query) ⊎ ((d ≡ doc.Args) × AreNamed args)))

-- the task takes arguments: those of a text without any where none are named
abbrev pub TakesArgs : Task → Type 0
TakesArgs (Const query) = ⊥
TakesArgs (Check schema_name data_name) = ⊥
TakesArgs (Run schema_name data_name query args) = Unit {0}

-- The rules that may refuse a task are those on the documents that it reads, and on arguments where it takes them.
abbrev pub Tells : Task → Refusal → Type 0
Tells t (Usage u) = ⊥
Tells t (TooLong d) = Reads t d
Tells t (Schema r) = Reads t doc.Schema
Tells t (Data b) = Reads t doc.Data
Tells t (Query r) = Reads t doc.Query
Tells t (Args b) = TakesArgs t
