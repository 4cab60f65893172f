-- Of each text something is decided, whatever it is judged as.
use Rattle.std.proofs.Common.{◌≡◌, ℕ, List, [], Option, Some, None, Result, Ok, Err, inl, inr, refl}
use Rattle.ast.specs.declared.statement.Query.{Query}
use Rattle.core_ir.specs.declared.tree.Scope.{Scope}
use Rattle.db_check.specs.declared.store.Store.{Store}
use Rattle.db_draft.specs.declared.refusal.DataRefusal.{DataRefusal}
use Rattle.db_draft.specs.declared.refusal.DataRefusal.TheVariants as data_refusal
use Rattle.db_load.specs.Arguments as arguments
use Rattle.db_load.specs.Data as loading
use Rattle.db_load.specs.declared.refusal.ArgsRefusal.{ArgsRefusal}
use Rattle.db_load.specs.declared.refusal.ArgsRefusal.TheVariants as args_refusal
use Rattle.db_load.proofs.EachText.{each_data, each_args}
use Rattle.eql_forms.specs.Built.{built_query}
use Rattle.eql_grammar.specs.Promise as query_text
use Rattle.eql_grammar.proofs.Promise as queries
use Rattle.ev_lex.specs.Reading.{IsCut, IsRead}
use Rattle.ev_lex.specs.declared.token.Token.{Token}
use Rattle.ev_lex.proofs.EachText.{each_reading}
use Rattle.ev_schema.specs.declared.schema.Schema.{Schema}
use Rattle.ev_value.specs.declared.args.Args.{Args}
use Rattle.schema_build.specs.Verdict.{IsAnswer}
use Rattle.schema_build.specs.declared.refusal.SchemaRefusal as build_refusal
use Rattle.schema_build.specs.declared.refusal.SchemaRefusal.TheVariants as build
use Rattle.schema_build.proofs.EachFile.{each_file}
use Rattle.sdl_ast.specs.declared.declaration.SdlFile.{SdlFile}
use Rattle.sdl_grammar.specs.Promise as schema_text
use Rattle.sdl_grammar.proofs.Promise as schemas
use Rattle.edge_run.specs.Judgement.{Judgement, AsSchema, AsData, AsQuery, AsArgs, IsJudged}
use Rattle.edge_run.specs.Query as of_query
use Rattle.edge_run.specs.Refusal as refused
use Rattle.edge_run.specs.Schema as of_schema
use Rattle.edge_run.specs.declared.outcome.QueryRefusal.TheVariants as query_refusal
use Rattle.edge_run.specs.declared.outcome.SchemaRefusal.TheVariants as schema_refusal

-- ---- schemas

schema_built : (text : List ℕ) (file : SdlFile) → of_schema.IsSpelled text file → (r : Result Schema build_refusal.SchemaRefusal) → (r ≡ Err build.Memory → ⊥) → IsAnswer file r
    → IsJudged AsSchema text
schema_built text file spelled (Ok schema) some is = (Ok schema, record { surface = file; spelled = spelled; built = is })
schema_built text file spelled (Err (build.Build broken)) some is = (Err (refused.Schema (schema_refusal.Build broken)), (file, spelled, is))
schema_built text file spelled (Err build.Unbuilt) some is = (Err (refused.Schema schema_refusal.Unbuilt), (file, spelled, is))
schema_built text file spelled (Err build.Memory) some is = absurd (some refl)

schema_parsed : (text : List ℕ) (ts : List Token) → IsCut text ts → schema_text.IsRead ts → IsJudged AsSchema text
schema_parsed text ts cut (inl (file, is)) = let answer = each_file file in schema_built text file (ts, cut, is) answer.0 answer.1 answer.2
schema_parsed text ts cut (inr (rule, token, why)) = (Err (refused.Schema (schema_refusal.Syntax rule token)), (ts, cut, why))

schema_read : (text : List ℕ) → IsRead text → IsJudged AsSchema text
schema_read text (inl (ts, cut)) = schema_parsed text ts cut (schemas.each_text ts)
schema_read text (inr (byte, why)) = (Err (refused.Schema (schema_refusal.Lex byte)), why)

-- ---- queries

query_built : (s : Schema) (text : List ℕ) (query : Query) → of_query.IsQuery text query → (o : Option Scope) → built_query s query ≡ o → IsJudged (AsQuery s) text
query_built s text query spelled (Some tree) e = (Ok tree, record { surface = query; spelled = spelled; built = e })
query_built s text query spelled None e = (Err (refused.Query query_refusal.Unbuilt), (query, spelled, e))

query_parsed : (s : Schema) (text : List ℕ) (ts : List Token) → IsCut text ts → query_text.IsRead ts → IsJudged (AsQuery s) text
query_parsed s text ts cut (inl (query, is)) = query_built s text query (ts, cut, is) (built_query s query) refl
query_parsed s text ts cut (inr (rule, token, why)) = (Err (refused.Query (query_refusal.Syntax rule token)), (ts, cut, why))

query_read : (s : Schema) (text : List ℕ) → IsRead text → IsJudged (AsQuery s) text
query_read s text (inl (ts, cut)) = query_parsed s text ts cut (queries.each_text ts)
query_read s text (inr (byte, why)) = (Err (refused.Query (query_refusal.Lex byte)), why)

-- ---- data and arguments

data_loaded : (s : Schema) (text : List ℕ) (r : Result Store DataRefusal) → (r ≡ Err data_refusal.Memory → ⊥) → loading.IsLoaded text s r → IsJudged (AsData s) text
data_loaded s text (Ok store) some is = (Ok store, is)
data_loaded s text (Err (data_refusal.Rule broken)) some is = (Err (refused.Data broken), is)
data_loaded s text (Err data_refusal.Memory) some is = absurd (some refl)

args_loaded : (s : Schema) (text : List ℕ) (r : Result Args ArgsRefusal) → (r ≡ Err args_refusal.Memory → ⊥) → arguments.IsLoaded text s [] r → IsJudged (AsArgs s) text
args_loaded s text (Ok args) some is = (Ok args, is)
args_loaded s text (Err (args_refusal.Rule broken)) some is = (Err (refused.Args broken), is)
args_loaded s text (Err args_refusal.Memory) some is = absurd (some refl)

-- something is decided of each text
pub each_decision : (j : Judgement) (text : List ℕ) → IsJudged j text
each_decision AsSchema text = schema_read text (each_reading text)
each_decision (AsData s) text = let loaded = each_data text s in data_loaded s text loaded.0 loaded.1 loaded.2
each_decision (AsQuery s) text = query_read s text (each_reading text)
each_decision (AsArgs s) text = let loaded = each_args text s [] in args_loaded s text loaded.0 loaded.1 loaded.2
