-- What the text of a document is judged as, and what is decided of it.
use Rattle.std.specs.Prelude.{◌≡◌, ℕ, List, Result, Ok, Err, ◌⊎◌}
use Rattle.core_ir.specs.declared.tree.Scope.{Scope}
use Rattle.ev_schema.specs.declared.schema.Schema.{Schema}
use Rattle.ev_value.specs.declared.args.Args.{Args}
use Rattle.db_check.specs.declared.store.Store.{Store}
use Rattle.edge_run.specs.Args as of_args
use Rattle.edge_run.specs.Data as of_data
use Rattle.edge_run.specs.Query as of_query
use Rattle.edge_run.specs.Refusal.{Refusal, told}
use Rattle.edge_run.specs.Schema as of_schema
use Rattle.edge_run.specs.declared.outcome.Doc.{Doc}
use Rattle.edge_run.specs.declared.outcome.Doc.TheVariants as doc
use Rattle.edge_run.specs.declared.outcome.Outcome.{Outcome}
use Rattle.edge_run.specs.declared.outcome.Outcome.TheVariants as outcome

-- a schema, data for a schema, a query over a schema, or arguments for a query over a schema
pub data Judgement : Type 0 where
  AsSchema : Judgement
  AsData : Schema → Judgement
  AsQuery : Schema → Judgement
  AsArgs : Schema → Judgement

-- the document whose text is judged so
abbrev pub doc_of : Judgement → Doc
doc_of AsSchema = doc.Schema
doc_of (AsData schema) = doc.Data
doc_of (AsQuery schema) = doc.Query
doc_of (AsArgs schema) = doc.Args

-- what a text that is accepted stands for
abbrev pub Matter : Judgement → Type 0
Matter AsSchema = Schema
Matter (AsData schema) = Store
Matter (AsQuery schema) = Scope
Matter (AsArgs schema) = Args

-- what the rules decide of a text
abbrev pub Decides : (j : Judgement) → List ℕ → Result (Matter j) Refusal → Type 0
Decides AsSchema text decided = of_schema.Decides text decided
Decides (AsData schema) text decided = of_data.Decides schema text decided
Decides (AsQuery schema) text decided = of_query.Decides schema text decided
Decides (AsArgs schema) text decided = of_args.Decides schema text decided

-- the rules decide something of a text
abbrev pub IsJudged : (j : Judgement) → List ℕ → Type 0
IsJudged j text = (decided : Result (Matter j) Refusal) × Decides j text decided

-- what was decided, as the code tells it
abbrev pub as_told : {A : Type 0} → Result A Refusal → Result A Outcome
as_told (Ok a) = Ok a
as_told (Err r) = Err (told r)

-- what the rules decide of a text, or that memory ran out
abbrev pub IsDecided : (j : Judgement) → List ℕ → Result (Matter j) Outcome → Type 0
IsDecided j text result = (result ≡ Err outcome.Memory) ⊎ ((decided : Result (Matter j) Refusal) × Decides j text decided × (result ≡ as_told decided))
