-- What each mode reads and decides.
use Rattle.std.specs.Prelude.{◌≡◌, ℕ, ◌+◌, if◌then◌else◌, List, [], ◌∷◌, ◌++◌, length, Option, Some, None, codes, decimal}
use Rattle.std.specs.Str.{bytes_eq}
use Rattle.core_ir.specs.declared.tree.Scope.{Scope}
use Rattle.eql_sem.specs.Forms.{strip}
use Rattle.eql_sem.specs.Parts.{items_in}
use Rattle.db_store.specs.declared.object.Object.{Object}
use Rattle.ev_schema.specs.Facts.{made_of}
use Rattle.ev_schema.specs.declared.schema.Schema.{Schema}
use Rattle.ev_value.specs.Item.{has_fault, faults, values}
use Rattle.ev_value.specs.JsonText.{json_text}
use Rattle.ev_value.specs.declared.args.Args.{Args}
use Rattle.ev_value.specs.Nested.{answer_form}
use Rattle.ev_value.specs.declared.item.Fault.{Fault}
use Rattle.ev_value.specs.declared.item.Item.{Item}
use Rattle.ev_value.specs.declared.value.Val.{Val}
use Rattle.db_check.specs.declared.store.Store.{Store}
use Rattle.eql_world.specs.StoreWorld.{world_of}
use Rattle.eql_world.specs.View.{view_of}
use Rattle.edge_run.specs.Judgement.{Judgement, AsSchema, AsData, AsQuery, AsArgs, Matter, doc_of}
use Rattle.edge_run.specs.Limits.{limit_of, is_long}
use Rattle.edge_run.specs.Plan.{Plan, Answer, Refuse, Fail, Read, Judge, ◌>>=◌, ruled}
use Rattle.edge_run.specs.Refusal.{Usage, TooLong}
use Rattle.edge_run.specs.declared.outcome.Doc.{Doc}
use Rattle.edge_run.specs.declared.outcome.UsageRule.TheVariants as rule

-- a text that was read of a document, unless it is too long
abbrev pub unless_long : Doc → List ℕ → Plan (List ℕ)
unless_long d text = if is_long d text then Refuse (TooLong d) else Answer text

-- the whole of a document; one byte more than its limit is asked for, so that a longer one shows itself and is refused
unfoldable pub document : Doc → List ℕ → Plan (List ℕ)
document d name = Read d name (limit_of d + 1) (unless_long d)

-- a document, judged
unfoldable pub judged_document : (j : Judgement) → List ℕ → Plan (Matter j)
judged_document j name = document (doc_of j) name >>= (λ text. Judge j text ruled)

-- the text of an answer: the JSON array of its values, and a line feed
abbrev pub answer_text : List Val → List ℕ
answer_text vs = json_text (answer_form vs) ++ codes "\n"

-- the first fault, where there is one
abbrev pub IsFirst : Option Fault → List Fault → Type 0
IsFirst None fs = fs ≡ []
IsFirst (Some f) fs = (more : List Fault) × (fs ≡ f ∷ more)

-- an answer of these items: their text, or any of their faults where there are some
unfoldable pub answered : List (Item Val) → Plan (List ℕ)
answered xs = if has_fault xs then Fail (faults xs) else Answer (answer_text (values xs))

-- how many types, abstract ones too, and how many objects there are
abbrev pub census : Schema → Store → List ℕ
census schema store = codes "types " ++ decimal (length schema.types) ++ codes " objects " ++ decimal (length store.objects) ++ codes "\n"

-- the schema without types: over it mode `const` takes its query
abbrev pub no_types : Schema
no_types = made_of [] [] [] []

-- the arguments of nobody
abbrev pub no_args : Args
no_args = record { globals = []; params = [] }

-- the values of a query over the objects that the caller sees; the queries that are built have no shapes, so that an item's form is its
-- value
unfoldable pub items_over : Schema → List Object → Scope → Args → List (Item Val)
items_over schema objects query args = strip (items_in (world_of schema (view_of schema objects args) args) query.body [] [])

-- the arguments: those of a document, or none where it is not named
unfoldable pub args_plan : Schema → Option (List ℕ) → Plan Args
args_plan schema None = Judge (AsArgs schema) (codes "{}") ruled
args_plan schema (Some name) = judged_document (AsArgs schema) name

-- mode `const`: the query alone, over no types, no objects and no arguments
unfoldable pub const_plan : List ℕ → Plan (List ℕ)
const_plan query_name = judged_document (AsQuery no_types) query_name >>= (λ query. answered (items_over no_types [] query no_args))

-- mode `check`: the schema and the data, counted
unfoldable pub check_plan : List ℕ → List ℕ → Plan (List ℕ)
check_plan schema_name data_name =
    judged_document AsSchema schema_name >>= (λ schema. judged_document (AsData schema) data_name >>= (λ store. Answer (census schema store)))

-- mode `run`: the schema, the data, the query and the arguments
unfoldable pub run_plan : List ℕ → List ℕ → List ℕ → Option (List ℕ) → Plan (List ℕ)
run_plan schema_name data_name query_name args_name =
    judged_document AsSchema schema_name >>= (λ schema. judged_document (AsData schema) data_name >>= (λ store.
    judged_document (AsQuery schema) query_name >>= (λ query. args_plan schema args_name >>= (λ args.
    answered (items_over schema store.objects query args)))))

-- the mode, over the names of a schema, of data, of a query and of arguments
abbrev pub mode_plan : List ℕ → List ℕ → List ℕ → List ℕ → Option (List ℕ) → Plan (List ℕ)
mode_plan mode schema_name data_name query_name args_name =
    if bytes_eq mode (codes "const") then const_plan query_name
    else (if bytes_eq mode (codes "check") then check_plan schema_name data_name
    else (if bytes_eq mode (codes "run") then run_plan schema_name data_name query_name args_name else Refuse (Usage rule.U2)))

-- the words MODE, SCHEMA, DATA and QUERY, and behind them nothing, or `--args` and one word
abbrev pub plan_of : List (List ℕ) → Plan (List ℕ)
plan_of (mode ∷ schema_name ∷ data_name ∷ query_name ∷ []) = mode_plan mode schema_name data_name query_name None
plan_of (mode ∷ schema_name ∷ data_name ∷ query_name ∷ option ∷ args_name ∷ []) =
    if bytes_eq option (codes "--args") then mode_plan mode schema_name data_name query_name (Some args_name) else Refuse (Usage rule.U1)
plan_of _ = Refuse (Usage rule.U1)
