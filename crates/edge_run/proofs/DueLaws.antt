-- Of a task at most one thing is due.
use Rattle.std.proofs.Common.{◌≡◌, ℕ, Bool, true, false, List, [], Option, Some, None, Result, Ok, Err, sym, ap, ◌∙◌, subst, codes}
use Rattle.ev_value.specs.declared.item.Item.{Item}
use Rattle.ev_value.specs.declared.value.Val.{Val}
use Rattle.edge_run.specs.Due.{Due, OfDocument, OfLength, OfText, OfDecision, OfItems, OfArgs}
use Rattle.edge_run.specs.Judgement.{Judgement, AsSchema, AsData, AsQuery, AsArgs, Matter, doc_of}
use Rattle.edge_run.specs.Limits.{is_long}
use Rattle.edge_run.specs.Modes.{census, items_over, no_types, no_args}
use Rattle.edge_run.specs.Plan.{Verdict, Answers, Refuses, Faults, Missing}
use Rattle.edge_run.specs.Refusal.{Refusal}
use Rattle.edge_run.specs.Task.{Task, Const, Check, Run}
use Rattle.edge_run.proofs.Decisions.{one_decision}

-- at most one verdict is such
abbrev AtMostOne : (Verdict (List ℕ) → Type 0) → Type 0
AtMostOne claim = (v w : Verdict (List ℕ)) → claim v → claim w → v ≡ w

items_once : (xs : List (Item Val)) → AtMostOne (OfItems xs)
items_once xs (Answers text) (Answers other) (none, is) (none', is') = ap Answers (is ∙ sym is')
items_once xs (Answers text) (Faults fs) (none, is) (are, some) = absurd (some (are ∙ none))
items_once xs (Answers text) (Refuses r) is is' = absurd is'
items_once xs (Answers text) (Missing d) is is' = absurd is'
items_once xs (Faults fs) (Answers text) (are, some) (none, is) = absurd (some (are ∙ none))
items_once xs (Faults fs) (Faults gs) (are, some) (are', some') = ap Faults (are ∙ sym are')
items_once xs (Faults fs) (Refuses r) is is' = absurd is'
items_once xs (Faults fs) (Missing d) is is' = absurd is'
items_once xs (Refuses r) w is is' = absurd is
items_once xs (Missing d) w is is' = absurd is

decision_once : {A : Type 0} (decided : Result A Refusal) (next : A → Verdict (List ℕ) → Type 0) → ((a : A) → AtMostOne (next a)) → AtMostOne (OfDecision decided next)
decision_once (Ok a) next once v w is is' = once a v w is is'
decision_once (Err r) next once v w is is' = is ∙ sym is'

text_once : (j : Judgement) (text : List ℕ) (next : Matter j → Verdict (List ℕ) → Type 0) → ((a : Matter j) → AtMostOne (next a)) → AtMostOne (OfText j text next)
text_once j text next once v w (decided, is, due) (other, is', due') =
    decision_once decided next once v w due (subst (λ (d : Result (Matter j) Refusal). OfDecision d next w) (sym (one_decision j text decided other is is')) due')

length_once : (long : Bool) (j : Judgement) (text : List ℕ) (next : Matter j → Verdict (List ℕ) → Type 0) → ((a : Matter j) → AtMostOne (next a))
    → AtMostOne (OfLength long j text next)
length_once true j text next once v w is is' = is ∙ sym is'
length_once false j text next once v w due due' = text_once j text next once v w due due'

document_once : (j : Judgement) (held : Option (List ℕ)) (next : Matter j → Verdict (List ℕ) → Type 0) → ((a : Matter j) → AtMostOne (next a))
    → AtMostOne (OfDocument j held next)
document_once j None next once v w is is' = is ∙ sym is'
document_once j (Some text) next once v w due due' = length_once (is_long (doc_of j) text) j text next once v w due due'

args_once : (schema : _) (files : List ℕ → Option (List ℕ)) (name : Option (List ℕ)) (next : Matter (AsArgs schema) → Verdict (List ℕ) → Type 0)
    → ((a : Matter (AsArgs schema)) → AtMostOne (next a)) → AtMostOne (OfArgs schema files name next)
args_once schema files None next once v w due due' = text_once (AsArgs schema) (codes "{}") next once v w due due'
args_once schema files (Some name) next once v w due due' = document_once (AsArgs schema) (files name) next once v w due due'

pub one_due : (t : Task) (files : List ℕ → Option (List ℕ)) (v w : Verdict (List ℕ)) → Due t files v → Due t files w → v ≡ w
one_due (Const query) files v w due due' =
    document_once (AsQuery no_types) (files query) (λ tree. OfItems (items_over no_types [] tree no_args)) (λ tree. items_once (items_over no_types [] tree no_args)) v w due due'
one_due (Check schema_name data_name) files v w due due' =
    document_once AsSchema (files schema_name) (λ schema. OfDocument (AsData schema) (files data_name) (λ store x. x ≡ Answers (census schema store)))
    (λ schema. document_once (AsData schema) (files data_name) (λ store x. x ≡ Answers (census schema store)) (λ store x y is is'. is ∙ sym is')) v w due due'
one_due (Run schema_name data_name query_name args_name) files v w due due' =
    document_once AsSchema (files schema_name)
    (λ schema. OfDocument (AsData schema) (files data_name) (λ store. OfDocument (AsQuery schema) (files query_name)
    (λ query. OfArgs schema files args_name (λ args. OfItems (items_over schema store.objects query args)))))
    (λ schema. document_once (AsData schema) (files data_name)
    (λ store. OfDocument (AsQuery schema) (files query_name) (λ query. OfArgs schema files args_name (λ args. OfItems (items_over schema store.objects query args))))
    (λ store. document_once (AsQuery schema) (files query_name) (λ query. OfArgs schema files args_name (λ args. OfItems (items_over schema store.objects query args)))
    (λ query. args_once schema files args_name (λ args. OfItems (items_over schema store.objects query args)) (λ args. items_once (items_over schema store.objects query args))))) v w due due'
