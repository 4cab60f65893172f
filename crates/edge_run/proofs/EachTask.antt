-- For each task something is due.
use Rattle.std.proofs.Common.{◌≡◌, ℕ, Bool, true, false, List, [], ◌∷◌, Option, Some, None, Result, Ok, Err, refl, sym, codes}
use Rattle.ev_schema.specs.declared.schema.Schema.{Schema}
use Rattle.ev_value.specs.Item.{faults, values}
use Rattle.ev_value.specs.declared.item.Fault.{Fault}
use Rattle.ev_value.specs.declared.item.Item.{Item}
use Rattle.ev_value.specs.declared.value.Val.{Val}
use Rattle.edge_run.specs.Due.{OfDocument, OfLength, OfText, OfDecision, OfItems, OfArgs, SomethingIsDue}
use Rattle.edge_run.specs.Judgement.{Judgement, AsSchema, AsData, AsQuery, AsArgs, Matter, doc_of}
use Rattle.edge_run.specs.Limits.{is_long}
use Rattle.edge_run.specs.Modes.{answer_text, census, items_over, no_types, no_args}
use Rattle.edge_run.specs.Plan.{Verdict, Answers, Refuses, Faults, Missing}
use Rattle.edge_run.specs.Refusal.{Refusal, TooLong}
use Rattle.edge_run.specs.Task.{Task, Const, Check, Run}
use Rattle.edge_run.proofs.EachText.{each_decision}

-- some verdict is such
abbrev AtLeastOne : (Verdict (List ℕ) → Type 0) → Type 0
AtLeastOne claim = (v : Verdict (List ℕ)) × claim v

some_fault : (fault : Fault) (more : List Fault) → fault ∷ more ≡ [] → ⊥
some_fault fault more e = cc e

each_items : (xs : List (Item Val)) → AtLeastOne (OfItems xs)
each_items xs = by_faults (faults xs) refl where
  by_faults : (fs : List Fault) → faults xs ≡ fs → AtLeastOne (OfItems xs)
  by_faults [] e = (Answers (answer_text (values xs)), (e, refl))
  by_faults (fault ∷ more) e = (Faults (fault ∷ more), (sym e, some_fault fault more))

each_decided : {A : Type 0} (decided : Result A Refusal) (next : A → Verdict (List ℕ) → Type 0) → ((a : A) → AtLeastOne (next a)) → AtLeastOne (OfDecision decided next)
each_decided (Ok a) next some = some a
each_decided (Err r) next some = (Refuses r, refl)

each_text : (j : Judgement) (text : List ℕ) (next : Matter j → Verdict (List ℕ) → Type 0) → ((a : Matter j) → AtLeastOne (next a)) → AtLeastOne (OfText j text next)
each_text j text next some =
    let judged = each_decision j text in
    let due = each_decided judged.0 next some in
    (due.0, (judged.0, judged.1, due.1))

each_length : (long : Bool) (j : Judgement) (text : List ℕ) (next : Matter j → Verdict (List ℕ) → Type 0) → ((a : Matter j) → AtLeastOne (next a))
    → AtLeastOne (OfLength long j text next)
each_length true j text next some = (Refuses (TooLong (doc_of j)), refl)
each_length false j text next some = each_text j text next some

each_document : (j : Judgement) (held : Option (List ℕ)) (next : Matter j → Verdict (List ℕ) → Type 0) → ((a : Matter j) → AtLeastOne (next a))
    → AtLeastOne (OfDocument j held next)
each_document j None next some = (Missing (doc_of j), refl)
each_document j (Some text) next some = each_length (is_long (doc_of j) text) j text next some

each_args : (schema : Schema) (files : List ℕ → Option (List ℕ)) (name : Option (List ℕ)) (next : Matter (AsArgs schema) → Verdict (List ℕ) → Type 0)
    → ((a : Matter (AsArgs schema)) → AtLeastOne (next a)) → AtLeastOne (OfArgs schema files name next)
each_args schema files None next some = each_text (AsArgs schema) (codes "{}") next some
each_args schema files (Some name) next some = each_document (AsArgs schema) (files name) next some

pub each_task : (t : Task) (files : List ℕ → Option (List ℕ)) → SomethingIsDue t files
each_task (Const query) files =
    each_document (AsQuery no_types) (files query) (λ tree. OfItems (items_over no_types [] tree no_args)) (λ tree. each_items (items_over no_types [] tree no_args))
each_task (Check schema_name data_name) files =
    each_document AsSchema (files schema_name) (λ schema. OfDocument (AsData schema) (files data_name) (λ store w. w ≡ Answers (census schema store)))
    (λ schema. each_document (AsData schema) (files data_name) (λ store w. w ≡ Answers (census schema store)) (λ store. (Answers (census schema store), refl)))
each_task (Run schema_name data_name query_name args_name) files =
    each_document AsSchema (files schema_name)
    (λ schema. OfDocument (AsData schema) (files data_name) (λ store. OfDocument (AsQuery schema) (files query_name)
    (λ query. OfArgs schema files args_name (λ args. OfItems (items_over schema store.objects query args)))))
    (λ schema. each_document (AsData schema) (files data_name)
    (λ store. OfDocument (AsQuery schema) (files query_name) (λ query. OfArgs schema files args_name (λ args. OfItems (items_over schema store.objects query args))))
    (λ store. each_document (AsQuery schema) (files query_name) (λ query. OfArgs schema files args_name (λ args. OfItems (items_over schema store.objects query args)))
    (λ query. each_args schema files args_name (λ args. OfItems (items_over schema store.objects query args)) (λ args. each_items (items_over schema store.objects query args)))))
