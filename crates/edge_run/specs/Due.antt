-- What is due for a task, over what the names hold.
use Rattle.std.specs.Prelude.{◌≡◌, ◌≢◌, ℕ, Bool, true, false, List, [], Option, Some, None, Result, Ok, Err, codes}
use Rattle.ev_value.specs.Item.{faults, values}
use Rattle.ev_schema.specs.declared.schema.Schema.{Schema}
use Rattle.ev_value.specs.declared.args.Args.{Args}
use Rattle.ev_value.specs.declared.item.Item.{Item}
use Rattle.ev_value.specs.declared.value.Val.{Val}
use Rattle.edge_run.specs.Judgement.{Judgement, AsSchema, AsData, AsQuery, AsArgs, Matter, Decides, doc_of}
use Rattle.edge_run.specs.Limits.{is_long}
use Rattle.edge_run.specs.Modes.{answer_text, census, items_over, no_types, no_args}
use Rattle.edge_run.specs.Plan.{Verdict, Answers, Refuses, Faults, Missing}
use Rattle.edge_run.specs.Refusal.{Refusal, TooLong}
use Rattle.edge_run.specs.Task.{Task, Const, Check, Run}

-- what is due over what was accepted; or what was refused is told
abbrev pub OfDecision : {A : Type 0} → Result A Refusal → (A → Verdict (List ℕ) → Type 0) → Verdict (List ℕ) → Type 0
OfDecision (Ok a) next v = next a v
OfDecision (Err r) next v = v ≡ Refuses r

-- what is due of a text that is judged so
abbrev pub OfText : (j : Judgement) → List ℕ → (Matter j → Verdict (List ℕ) → Type 0) → Verdict (List ℕ) → Type 0
OfText j text next v = (decided : Result (Matter j) Refusal) × Decides j text decided × OfDecision decided next v

-- what is due of a whole document that is judged so: it is told where it is too long, and else it is decided on
abbrev pub OfLength : Bool → (j : Judgement) → List ℕ → (Matter j → Verdict (List ℕ) → Type 0) → Verdict (List ℕ) → Type 0
OfLength true j text next v = v ≡ Refuses (TooLong (doc_of j))
OfLength false j text next v = OfText j text next v

-- what is due of a document that is judged so: it is missing, it is too long, or it is decided on
abbrev pub OfDocument : (j : Judgement) → Option (List ℕ) → (Matter j → Verdict (List ℕ) → Type 0) → Verdict (List ℕ) → Type 0
OfDocument j None next v = v ≡ Missing (doc_of j)
OfDocument j (Some text) next v = OfLength (is_long (doc_of j) text) j text next v

-- what is due of an answer's items: where none is a fault, the JSON array of their values and a line feed, and else the faults
abbrev pub OfItems : List (Item Val) → Verdict (List ℕ) → Type 0
OfItems xs (Answers text) = (faults xs ≡ []) × (text ≡ answer_text (values xs))
OfItems xs (Faults fs) = (fs ≡ faults xs) × (fs ≢ [])
OfItems xs (Refuses r) = ⊥
OfItems xs (Missing d) = ⊥

-- what is due of arguments: of those that a name holds, or of none where there is no name
abbrev pub OfArgs : Schema → (List ℕ → Option (List ℕ)) → Option (List ℕ) → (Args → Verdict (List ℕ) → Type 0) → Verdict (List ℕ) → Type 0
OfArgs schema files None next v = OfText (AsArgs schema) (codes "{}") next v
OfArgs schema files (Some name) next v = OfDocument (AsArgs schema) (files name) next v

-- What is due, document by document in the order in which they are read: a later one counts only once the earlier were accepted.
abbrev pub Due : Task → (List ℕ → Option (List ℕ)) → Verdict (List ℕ) → Type 0
Due (Const query_name) files v = OfDocument (AsQuery no_types) (files query_name) (λ query. OfItems (items_over no_types [] query no_args)) v
Due (Check schema_name data_name) files v =
    OfDocument AsSchema (files schema_name) (λ schema. OfDocument (AsData schema) (files data_name) (λ store w. w ≡ Answers (census schema store))) v
Due (Run schema_name data_name query_name args_name) files v =
    OfDocument AsSchema (files schema_name) (λ schema. OfDocument (AsData schema) (files data_name) (λ store. OfDocument (AsQuery schema) (files query_name)
    (λ query. OfArgs schema files args_name (λ args. OfItems (items_over schema store.objects query args))))) v

-- Some verdict is due for the task: no text that it reads is left without a decision.
abbrev pub SomethingIsDue : Task → (List ℕ → Option (List ℕ)) → Type 0
SomethingIsDue task files = (v : Verdict (List ℕ)) × Due task files v
