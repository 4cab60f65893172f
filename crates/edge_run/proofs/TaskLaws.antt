-- What the plan of a task comes to, against what is due for the task.
use Rattle.std.proofs.Common.{◌≡◌, ℕ, Bool, true, false, codes, List, [], ◌∷◌, Option, Some, None, Result, Ok, Err, ◌⊎◌, inl, inr, refl, sym, ◌∙◌, subst, rules}
use Rattle.ev_value.specs.Item.{faults, values}
use Rattle.ev_value.specs.declared.item.Fault.{Fault}
use Rattle.ev_value.specs.declared.item.Item.{Item}
use Rattle.ev_value.specs.declared.value.Val.{Val}
use Rattle.core_ir.specs.declared.tree.Scope.{Scope}
use Rattle.ev_schema.specs.declared.schema.Schema.{Schema}
use Rattle.db_check.specs.declared.store.Store.{Store}
use Rattle.edge_run.specs.Due.{Due, OfDocument, OfLength, OfText, OfDecision, OfItems, OfArgs}
use Rattle.edge_run.specs.Judgement.{Judgement, AsSchema, AsData, AsQuery, AsArgs, Matter, Decides, doc_of}
use Rattle.edge_run.specs.Limits.{is_long}
use Rattle.edge_run.specs.Modes.{answered, answer_text, census, judged_document, document, unless_long, const_plan, check_plan, items_over, args_plan, run_plan, no_types, no_args}
use Rattle.edge_run.specs.Plan.{Plan, Answer, Fail, Judge, ◌>>=◌, ruled, Verdict, Answers, Faults, Missing, Comes, IfHeld, MayRefuse, MayRead}
use Rattle.edge_run.specs.Refusal.{Refusal, Usage, TooLong, Data, Query, Args}
use Rattle.edge_run.specs.Refusal as refused
use Rattle.edge_run.specs.Task.{Task, Const, Check, Run, Reads, Tells, TakesArgs, AreNamed}
use Rattle.edge_run.specs.declared.outcome.Doc.{Doc}
use Rattle.edge_run.specs.declared.outcome.Doc.TheVariants as doc
use Rattle.edge_run.proofs.Answered.{faultless, faulty}
use Rattle.edge_run.proofs.Documents.{answered as answered_text, refused, front_answered, front_refused}
use Rattle.edge_run.proofs.LimitLaws.{front}

-- the plan of a task
abbrev pub plan_for : Task → Plan (List ℕ)
plan_for (Const query) = const_plan query
plan_for (Check schema_name data_name) = check_plan schema_name data_name
plan_for (Run schema_name data_name query args) = run_plan schema_name data_name query args

-- data of a schema, counted
abbrev counted_plan : Schema → List ℕ → Plan (List ℕ)
counted_plan schema name = judged_document (AsData schema) name >>= (λ store. Answer (census schema store))

-- a query, once schema, objects and the tree are known
abbrev answered_plan : Schema → Store → Scope → Option (List ℕ) → Plan (List ℕ)
answered_plan schema store query args_name = args_plan schema args_name >>= (λ args. answered (items_over schema store.objects query args))

-- the same, once schema and objects are known
abbrev queried_plan : Schema → Store → List ℕ → Option (List ℕ) → Plan (List ℕ)
queried_plan schema store query_name args_name = judged_document (AsQuery schema) query_name >>= (λ query. answered_plan schema store query args_name)

-- the same, once the schema is known
abbrev stored_plan : Schema → List ℕ → List ℕ → Option (List ℕ) → Plan (List ℕ)
stored_plan schema data_name query_name args_name = judged_document (AsData schema) data_name >>= (λ store. queried_plan schema store query_name args_name)

-- the items of mode `const`
abbrev bare_items : Scope → List (Item Val)
bare_items query = items_over no_types [] query no_args

-- ---- what is due of an answer's items

fault_first : (fs : List Fault) → (fs ≡ []) ⊎ ((f : Fault) × (more : List Fault) × (fs ≡ f ∷ more))
fault_first [] = inl refl
fault_first (f ∷ more) = inr (f, more, refl)

answered_clean : (xs : List (Item Val)) → faults xs ≡ [] → answered xs ≡ Answer (answer_text (values xs))
unfolding answered
answered_clean xs e = rw (faultless xs e) refl

answered_faulty : (xs : List (Item Val)) (f : Fault) (more : List Fault) → faults xs ≡ f ∷ more → answered xs ≡ Fail (faults xs)
unfolding answered
answered_faulty xs f more e = rw (faulty xs f more e) refl

comes_answer : (files : List ℕ → Option (List ℕ)) (p : Plan (List ℕ)) (text : List ℕ) (v : Verdict (List ℕ)) → p ≡ Answer text → Comes files p v → v ≡ Answers text
unfolding Comes
comes_answer files p text v e c = subst (λ q. Comes files q v) e c

comes_faults : (files : List ℕ → Option (List ℕ)) (p : Plan (List ℕ)) (fs : List Fault) (v : Verdict (List ℕ)) → p ≡ Fail fs → Comes files p v → v ≡ Faults fs
unfolding Comes
comes_faults files p fs v e c = subst (λ q. Comes files q v) e c

cons_not_nil : (f : Fault) (more : List Fault) → f ∷ more ≡ [] → ⊥
cons_not_nil f more e = search rules

items_due : (files : List ℕ → Option (List ℕ)) (xs : List (Item Val)) (v : Verdict (List ℕ)) → Comes files (answered xs) v → OfItems xs v
items_due files xs v c = by (fault_first (faults xs))
  where
    by : (faults xs ≡ []) ⊎ ((f : Fault) × (more : List Fault) × (faults xs ≡ f ∷ more)) → OfItems xs v
    by (inl clean) = subst (OfItems xs) (sym (comes_answer files (answered xs) (answer_text (values xs)) v (answered_clean xs clean) c)) (clean, refl)
    by (inr (f, more, e)) =
        subst (OfItems xs) (sym (comes_faults files (answered xs) (faults xs) v (answered_faulty xs f more e) c)) (refl, λ none. cons_not_nil f more (sym e ∙ none))

-- ---- what is due of a document

ruled_due : {A : Type 0} (files : List ℕ → Option (List ℕ)) (decided : Result A Refusal) (f : A → Plan (List ℕ)) (next : A → Verdict (List ℕ) → Type 0) (v : Verdict (List ℕ))
    → ((a : A) → Comes files (f a) v → next a v) → Comes files (ruled decided >>= f) v → OfDecision decided next v
unfolding Comes ruled ◌>>=◌
ruled_due files (Ok a) f next v then c = then a c
ruled_due files (Err r) f next v then c = c

-- a text that was read, judged
abbrev judged_text : (j : Judgement) → List ℕ → Plan (Matter j)
judged_text j text = unless_long (doc_of j) text >>= (λ t. Judge j t ruled)

read_due : (j : Judgement) (files : List ℕ → Option (List ℕ)) (text : List ℕ) (f : Matter j → Plan (List ℕ)) (next : Matter j → Verdict (List ℕ) → Type 0)
    (v : Verdict (List ℕ)) → ((a : Matter j) → Comes files (f a) v → next a v) → (long : Bool) → is_long (doc_of j) text ≡ long
    → Comes files (judged_text j (front (doc_of j) text) >>= f) v → OfLength long j text next v
unfolding Comes ◌>>=◌
read_due j files text f next v then true e c =
    subst (λ (p : Plan (List ℕ)). Comes files ((p >>= (λ t. Judge j t ruled)) >>= f) v) (front_refused (doc_of j) text e) c
read_due j files text f next v then false e c =
    by (subst (λ (p : Plan (List ℕ)). Comes files ((p >>= (λ t. Judge j t ruled)) >>= f) v) (front_answered (doc_of j) text e) c)
  where
    by : Comes files ((Answer text >>= (λ t. Judge j t ruled)) >>= f) v → OfText j text next v
    by (decided, is, later) = (decided, is, ruled_due files decided f next v then later)

found_due : (j : Judgement) (files : List ℕ → Option (List ℕ)) (f : Matter j → Plan (List ℕ)) (next : Matter j → Verdict (List ℕ) → Type 0) (v : Verdict (List ℕ))
    → ((a : Matter j) → Comes files (f a) v → next a v) → (held : Option (List ℕ))
    → IfHeld (v ≡ Missing (doc_of j)) (λ text. Comes files (judged_text j (front (doc_of j) text) >>= f) v) held → OfDocument j held next v
found_due j files f next v then None c = c
found_due j files f next v then (Some text) c = read_due j files text f next v then (is_long (doc_of j) text) refl c

-- What is due of a document, where what is due over what it stands for is known.
document_due : (j : Judgement) (files : List ℕ → Option (List ℕ)) (name : List ℕ) (f : Matter j → Plan (List ℕ)) (next : Matter j → Verdict (List ℕ) → Type 0)
    (v : Verdict (List ℕ)) → ((a : Matter j) → Comes files (f a) v → next a v) → Comes files (judged_document j name >>= f) v → OfDocument j (files name) next v
unfolding Comes judged_document document ◌>>=◌
document_due j files name f next v then c = found_due j files f next v then (files name) c

counted_due : (files : List ℕ → Option (List ℕ)) (schema : Schema) (name : List ℕ) (v : Verdict (List ℕ)) → Comes files (counted_plan schema name) v
    → OfDocument (AsData schema) (files name) (λ store w. w ≡ Answers (census schema store)) v
unfolding Comes
counted_due files schema name v c =
    document_due (AsData schema) files name (λ store. Answer (census schema store)) (λ store w. w ≡ Answers (census schema store)) v (λ store is. is) c

text_due : (j : Judgement) (files : List ℕ → Option (List ℕ)) (text : List ℕ) (f : Matter j → Plan (List ℕ)) (next : Matter j → Verdict (List ℕ) → Type 0)
    (v : Verdict (List ℕ)) → ((a : Matter j) → Comes files (f a) v → next a v) → Comes files (Judge j text ruled >>= f) v → OfText j text next v
unfolding Comes ◌>>=◌
text_due j files text f next v then (decided, is, c) = (decided, is, ruled_due files decided f next v then c)

args_due : (files : List ℕ → Option (List ℕ)) (schema : Schema) (name : Option (List ℕ)) (f : Matter (AsArgs schema) → Plan (List ℕ))
    (next : Matter (AsArgs schema) → Verdict (List ℕ) → Type 0) (v : Verdict (List ℕ)) → ((a : Matter (AsArgs schema)) → Comes files (f a) v → next a v)
    → Comes files (args_plan schema name >>= f) v → OfArgs schema files name next v
unfolding args_plan
args_due files schema None f next v then c = text_due (AsArgs schema) files (codes "{}") f next v then c
args_due files schema (Some name) f next v then c = document_due (AsArgs schema) files name f next v then c

-- what is due of a query over some objects
abbrev QueryDue : Schema → Store → (List ℕ → Option (List ℕ)) → List ℕ → Option (List ℕ) → Verdict (List ℕ) → Type 0
QueryDue schema store files query_name args_name v =
    OfDocument (AsQuery schema) (files query_name) (λ query. OfArgs schema files args_name (λ args. OfItems (items_over schema store.objects query args))) v

answered_due : (files : List ℕ → Option (List ℕ)) (schema : Schema) (store : Store) (query : Scope) (args_name : Option (List ℕ)) (v : Verdict (List ℕ))
    → Comes files (answered_plan schema store query args_name) v → OfArgs schema files args_name (λ args. OfItems (items_over schema store.objects query args)) v
answered_due files schema store query args_name v c =
    args_due files schema args_name (λ args. answered (items_over schema store.objects query args)) (λ args. OfItems (items_over schema store.objects query args)) v
    (λ args. items_due files (items_over schema store.objects query args) v) c

queried_due : (files : List ℕ → Option (List ℕ)) (schema : Schema) (store : Store) (query_name : List ℕ) (args_name : Option (List ℕ)) (v : Verdict (List ℕ))
    → Comes files (queried_plan schema store query_name args_name) v → QueryDue schema store files query_name args_name v
queried_due files schema store query_name args_name v c =
    document_due (AsQuery schema) files query_name (λ query. answered_plan schema store query args_name)
    (λ query. OfArgs schema files args_name (λ args. OfItems (items_over schema store.objects query args))) v (λ query. answered_due files schema store query args_name v) c

stored_due : (files : List ℕ → Option (List ℕ)) (schema : Schema) (data_name query_name : List ℕ) (args_name : Option (List ℕ)) (v : Verdict (List ℕ))
    → Comes files (stored_plan schema data_name query_name args_name) v
    → OfDocument (AsData schema) (files data_name) (λ store. QueryDue schema store files query_name args_name) v
stored_due files schema data_name query_name args_name v c =
    document_due (AsData schema) files data_name (λ store. queried_plan schema store query_name args_name) (λ store. QueryDue schema store files query_name args_name) v
    (λ store. queried_due files schema store query_name args_name v) c

-- What the plan of a task comes to is due.
pub comes_due : (t : Task) (files : List ℕ → Option (List ℕ)) (v : Verdict (List ℕ)) → Comes files (plan_for t) v → Due t files v
unfolding const_plan check_plan run_plan
comes_due (Const query) files v c =
    document_due (AsQuery no_types) files query (λ tree. answered (bare_items tree)) (λ tree. OfItems (bare_items tree)) v (λ tree. items_due files (bare_items tree) v) c
comes_due (Check schema_name data_name) files v c =
    document_due AsSchema files schema_name (λ schema. counted_plan schema data_name)
    (λ schema. OfDocument (AsData schema) (files data_name) (λ store w. w ≡ Answers (census schema store))) v
    (λ schema. counted_due files schema data_name v) c
comes_due (Run schema_name data_name query_name args_name) files v c =
    document_due AsSchema files schema_name (λ schema. stored_plan schema data_name query_name args_name)
    (λ schema. OfDocument (AsData schema) (files data_name) (λ store. QueryDue schema store files query_name args_name)) v
    (λ schema. stored_due files schema data_name query_name args_name v) c

-- ---- which rules may refuse a task, and which documents it reads

-- the rules on a document of this kind
abbrev TellsOf : Judgement → Refusal → Type 0
TellsOf j (Usage u) = ⊥
TellsOf j (TooLong d) = d ≡ doc_of j
TellsOf j (refused.Schema r) = doc.Schema ≡ doc_of j
TellsOf j (Data b) = doc.Data ≡ doc_of j
TellsOf j (Query r) = doc.Query ≡ doc_of j
TellsOf j (Args b) = doc.Args ≡ doc_of j

decided_tells : (j : Judgement) (text : List ℕ) (x : Refusal) → Decides j text (Err x) → TellsOf j x
decided_tells AsSchema text (Usage u) is = is
decided_tells AsSchema text (TooLong d) is = absurd is
decided_tells AsSchema text (refused.Schema r) is = refl
decided_tells AsSchema text (Data b) is = absurd is
decided_tells AsSchema text (Query r) is = absurd is
decided_tells AsSchema text (Args b) is = absurd is
decided_tells (AsData s) text (Usage u) is = is
decided_tells (AsData s) text (TooLong d) is = absurd is
decided_tells (AsData s) text (refused.Schema r) is = absurd is
decided_tells (AsData s) text (Data b) is = refl
decided_tells (AsData s) text (Query r) is = absurd is
decided_tells (AsData s) text (Args b) is = absurd is
decided_tells (AsQuery s) text (Usage u) is = is
decided_tells (AsQuery s) text (TooLong d) is = absurd is
decided_tells (AsQuery s) text (refused.Schema r) is = absurd is
decided_tells (AsQuery s) text (Data b) is = absurd is
decided_tells (AsQuery s) text (Query r) is = refl
decided_tells (AsQuery s) text (Args b) is = absurd is
decided_tells (AsArgs s) text (Usage u) is = is
decided_tells (AsArgs s) text (TooLong d) is = absurd is
decided_tells (AsArgs s) text (refused.Schema r) is = absurd is
decided_tells (AsArgs s) text (Data b) is = absurd is
decided_tells (AsArgs s) text (Query r) is = absurd is
decided_tells (AsArgs s) text (Args b) is = refl

ruled_refuses : {A : Type 0} (j : Judgement) (text : List ℕ) (decided : Result (Matter j) Refusal) (f : Matter j → Plan A) (x : Refusal) → Decides j text decided
    → MayRefuse (ruled decided >>= f) x → TellsOf j x ⊎ ((a : Matter j) × MayRefuse (f a) x)
unfolding MayRefuse ruled ◌>>=◌
ruled_refuses j text (Ok a) f x is may = inr (a, may)
ruled_refuses j text (Err r) f x is may = inl (subst (TellsOf j) (sym may) (decided_tells j text r is))

read_refuses : {A : Type 0} (j : Judgement) (text : List ℕ) (f : Matter j → Plan A) (x : Refusal) (long : Bool) → is_long (doc_of j) text ≡ long
    → MayRefuse (judged_text j text >>= f) x → TellsOf j x ⊎ ((a : Matter j) × MayRefuse (f a) x)
unfolding MayRefuse ◌>>=◌
read_refuses j text f x true e may =
    inl (subst (TellsOf j) (sym (subst (λ (p : Plan (List ℕ)). MayRefuse ((p >>= (λ t. Judge j t ruled)) >>= f) x) (refused (doc_of j) text e) may)) refl)
read_refuses j text f x false e may = by (subst (λ (p : Plan (List ℕ)). MayRefuse ((p >>= (λ t. Judge j t ruled)) >>= f) x) (answered_text (doc_of j) text e) may)
  where
    by : MayRefuse ((Answer text >>= (λ t. Judge j t ruled)) >>= f) x → TellsOf j x ⊎ ((a : Matter j) × MayRefuse (f a) x)
    by (decided, is, later) = ruled_refuses j text decided f x is later

document_refuses : {A : Type 0} (j : Judgement) (name : List ℕ) (f : Matter j → Plan A) (x : Refusal) → MayRefuse (judged_document j name >>= f) x
    → TellsOf j x ⊎ ((a : Matter j) × MayRefuse (f a) x)
unfolding MayRefuse judged_document document ◌>>=◌
document_refuses j name f x (text, may) = read_refuses j text f x (is_long (doc_of j) text) refl may

ruled_reads : {A : Type 0} (j : Judgement) (decided : Result (Matter j) Refusal) (f : Matter j → Plan A) (d : Doc) → MayRead (ruled decided >>= f) d
    → (a : Matter j) × MayRead (f a) d
unfolding MayRead ruled ◌>>=◌
ruled_reads j (Ok a) f d may = (a, may)
ruled_reads j (Err r) f d may = absurd may

read_reads : {A : Type 0} (j : Judgement) (text : List ℕ) (f : Matter j → Plan A) (d : Doc) (long : Bool) → is_long (doc_of j) text ≡ long
    → MayRead (judged_text j text >>= f) d → (a : Matter j) × MayRead (f a) d
unfolding MayRead ◌>>=◌
read_reads j text f d true e may = absurd (subst (λ (p : Plan (List ℕ)). MayRead ((p >>= (λ t. Judge j t ruled)) >>= f) d) (refused (doc_of j) text e) may)
read_reads j text f d false e may = by (subst (λ (p : Plan (List ℕ)). MayRead ((p >>= (λ t. Judge j t ruled)) >>= f) d) (answered_text (doc_of j) text e) may)
  where
    by : MayRead ((Answer text >>= (λ t. Judge j t ruled)) >>= f) d → (a : Matter j) × MayRead (f a) d
    by (decided, is, later) = ruled_reads j decided f d later

document_reads : {A : Type 0} (j : Judgement) (name : List ℕ) (f : Matter j → Plan A) (d : Doc) → MayRead (judged_document j name >>= f) d
    → (d ≡ doc_of j) ⊎ ((a : Matter j) × MayRead (f a) d)
unfolding MayRead judged_document document ◌>>=◌
document_reads j name f d (inl e) = inl e
document_reads j name f d (inr (text, may)) = inr (read_reads j text f d (is_long (doc_of j) text) refl may)

items_end : (xs : List (Item Val)) → (answered xs ≡ Answer (answer_text (values xs))) ⊎ (answered xs ≡ Fail (faults xs))
items_end xs = by (fault_first (faults xs))
  where
    by : (faults xs ≡ []) ⊎ ((f : Fault) × (more : List Fault) × (faults xs ≡ f ∷ more)) → (answered xs ≡ Answer (answer_text (values xs))) ⊎ (answered xs ≡ Fail (faults xs))
    by (inl clean) = inl (answered_clean xs clean)
    by (inr (f, more, e)) = inr (answered_faulty xs f more e)

items_refuse : (xs : List (Item Val)) (x : Refusal) → MayRefuse (answered xs) x → ⊥
unfolding MayRefuse
items_refuse xs x may = by (items_end xs)
  where
    by : (answered xs ≡ Answer (answer_text (values xs))) ⊎ (answered xs ≡ Fail (faults xs)) → ⊥
    by (inl e) = subst (λ (p : Plan (List ℕ)). MayRefuse p x) e may
    by (inr e) = subst (λ (p : Plan (List ℕ)). MayRefuse p x) e may

items_read : (xs : List (Item Val)) (d : Doc) → MayRead (answered xs) d → ⊥
unfolding MayRead
items_read xs d may = by (items_end xs)
  where
    by : (answered xs ≡ Answer (answer_text (values xs))) ⊎ (answered xs ≡ Fail (faults xs)) → ⊥
    by (inl e) = subst (λ (p : Plan (List ℕ)). MayRead p d) e may
    by (inr e) = subst (λ (p : Plan (List ℕ)). MayRead p d) e may

answer_refuses : (text : List ℕ) (x : Refusal) → MayRefuse (Answer text) x → ⊥
unfolding MayRefuse
answer_refuses text x may = may

answer_reads : (text : List ℕ) (d : Doc) → MayRead (Answer text) d → ⊥
unfolding MayRead
answer_reads text d may = may

takes_args : (t : Task) → Reads t doc.Args → TakesArgs t
takes_args (Const query) reads = search rules
takes_args (Check schema_name data_name) (inl e) = search rules
takes_args (Check schema_name data_name) (inr e) = search rules
takes_args (Run schema_name data_name query_name args_name) reads = tt

-- a rule on a document that the task reads may refuse it
tells_at : (t : Task) (j : Judgement) (x : Refusal) → Reads t (doc_of j) → TellsOf j x → Tells t x
tells_at t j (Usage u) reads tells = tells
tells_at t j (TooLong d) reads tells = subst (Reads t) (sym tells) reads
tells_at t j (refused.Schema r) reads tells = subst (Reads t) (sym tells) reads
tells_at t j (Data b) reads tells = subst (Reads t) (sym tells) reads
tells_at t j (Query r) reads tells = subst (Reads t) (sym tells) reads
tells_at t j (Args b) reads tells = takes_args t (subst (Reads t) (sym tells) reads)

counted_refuses : (t : Task) (schema : Schema) (name : List ℕ) (x : Refusal) → Reads t doc.Data → MayRefuse (counted_plan schema name) x → Tells t x
counted_refuses t schema name x reads may = elim (document_refuses (AsData schema) name (λ store. Answer (census schema store)) x may) [
  | inl tells ↦ tells_at t (AsData schema) x reads tells
  | inr later ↦ absurd (answer_refuses (census schema later.0) x later.1)
]

counted_reads : (schema : Schema) (name : List ℕ) (d : Doc) → MayRead (counted_plan schema name) d → d ≡ doc.Data
counted_reads schema name d may = elim (document_reads (AsData schema) name (λ store. Answer (census schema store)) d may) [
  | inl e ↦ e
  | inr later ↦ absurd (answer_reads (census schema later.0) d later.1)
]

module _ (schema_name data_name query_name : List ℕ) where
  -- the task of mode `run` over these names
  abbrev Asked : Option (List ℕ) → Task
  Asked args_name = Run schema_name data_name query_name args_name

  -- of a text without arguments no rule but one on arguments may be told
  braces_tell : (schema : Schema) (x : Refusal) → Decides (AsArgs schema) (codes "{}") (Err x) → Tells (Asked None) x
  braces_tell schema (Usage u) is = is
  braces_tell schema (TooLong d) is = absurd is
  braces_tell schema (refused.Schema r) is = absurd is
  braces_tell schema (Data b) is = absurd is
  braces_tell schema (Query r) is = absurd is
  braces_tell schema (Args b) is = tt

  none_refuses : (schema : Schema) (decided : _) (f : Matter (AsArgs schema) → Plan (List ℕ)) (x : Refusal) → Decides (AsArgs schema) (codes "{}") decided
      → MayRefuse (ruled decided >>= f) x → Tells (Asked None) x ⊎ ((a : Matter (AsArgs schema)) × MayRefuse (f a) x)
  unfolding MayRefuse ruled ◌>>=◌
  none_refuses schema (Ok a) f x is may = inr (a, may)
  none_refuses schema (Err r) f x is may = inl (subst (Tells (Asked None)) (sym may) (braces_tell schema r is))

  args_refuse : (schema : Schema) (args_name : Option (List ℕ)) (f : Matter (AsArgs schema) → Plan (List ℕ)) (x : Refusal)
      → MayRefuse (args_plan schema args_name >>= f) x → Tells (Asked args_name) x ⊎ ((a : Matter (AsArgs schema)) × MayRefuse (f a) x)
  unfolding args_plan MayRefuse ◌>>=◌
  args_refuse schema None f x (decided, is, may) = none_refuses schema decided f x is may
  args_refuse schema (Some name) f x may = elim (document_refuses (AsArgs schema) name f x may) [
    | inl tells ↦ inl (tells_at (Asked (Some name)) (AsArgs schema) x (inr (inr (inr (refl, tt)))) tells)
    | inr later ↦ inr later
  ]

  args_read : (schema : Schema) (args_name : Option (List ℕ)) (f : Matter (AsArgs schema) → Plan (List ℕ)) (d : Doc)
      → MayRead (args_plan schema args_name >>= f) d → ((d ≡ doc.Args) × AreNamed args_name) ⊎ ((a : Matter (AsArgs schema)) × MayRead (f a) d)
  unfolding args_plan MayRead ◌>>=◌
  args_read schema None f d (decided, is, may) = inr (ruled_reads (AsArgs schema) decided f d may)
  args_read schema (Some name) f d may = elim (document_reads (AsArgs schema) name f d may) [
    | inl e ↦ inl (e, tt)
    | inr later ↦ inr later
  ]

  answered_refuses : (schema : Schema) (store : Store) (query : Scope) (args_name : Option (List ℕ)) (x : Refusal) → MayRefuse (answered_plan schema store query args_name) x
      → Tells (Asked args_name) x
  answered_refuses schema store query args_name x may = elim (args_refuse schema args_name (λ args. answered (items_over schema store.objects query args)) x may) [
    | inl tells ↦ tells
    | inr later ↦ absurd (items_refuse (items_over schema store.objects query later.0) x later.1)
  ]

  answered_reads : (schema : Schema) (store : Store) (query : Scope) (args_name : Option (List ℕ)) (d : Doc) → MayRead (answered_plan schema store query args_name) d
      → (d ≡ doc.Args) × AreNamed args_name
  answered_reads schema store query args_name d may = elim (args_read schema args_name (λ args. answered (items_over schema store.objects query args)) d may) [
    | inl reads ↦ reads
    | inr later ↦ absurd (items_read (items_over schema store.objects query later.0) d later.1)
  ]

  queried_refuses : (schema : Schema) (store : Store) (args_name : Option (List ℕ)) (x : Refusal) → MayRefuse (queried_plan schema store query_name args_name) x
      → Tells (Asked args_name) x
  queried_refuses schema store args_name x may = elim (document_refuses (AsQuery schema) query_name (λ query. answered_plan schema store query args_name) x may) [
    | inl tells ↦ tells_at (Asked args_name) (AsQuery schema) x (inr (inr (inl refl))) tells
    | inr later ↦ answered_refuses schema store later.0 args_name x later.1
  ]

  queried_reads : (schema : Schema) (store : Store) (args_name : Option (List ℕ)) (d : Doc) → MayRead (queried_plan schema store query_name args_name) d
      → (d ≡ doc.Query) ⊎ ((d ≡ doc.Args) × AreNamed args_name)
  queried_reads schema store args_name d may = elim (document_reads (AsQuery schema) query_name (λ query. answered_plan schema store query args_name) d may) [
    | inl e ↦ inl e
    | inr later ↦ inr (answered_reads schema store later.0 args_name d later.1)
  ]

  stored_refuses : (schema : Schema) (args_name : Option (List ℕ)) (x : Refusal) → MayRefuse (stored_plan schema data_name query_name args_name) x → Tells (Asked args_name) x
  stored_refuses schema args_name x may = elim (document_refuses (AsData schema) data_name (λ store. queried_plan schema store query_name args_name) x may) [
    | inl tells ↦ tells_at (Asked args_name) (AsData schema) x (inr (inl refl)) tells
    | inr later ↦ queried_refuses schema later.0 args_name x later.1
  ]

  stored_reads : (schema : Schema) (args_name : Option (List ℕ)) (d : Doc) → MayRead (stored_plan schema data_name query_name args_name) d
      → (d ≡ doc.Data) ⊎ ((d ≡ doc.Query) ⊎ ((d ≡ doc.Args) × AreNamed args_name))
  stored_reads schema args_name d may = elim (document_reads (AsData schema) data_name (λ store. queried_plan schema store query_name args_name) d may) [
    | inl e ↦ inl e
    | inr later ↦ inr (queried_reads schema later.0 args_name d later.1)
  ]

-- The rules that may refuse the plan of a task are those on the documents that it reads.
pub may_tell : (t : Task) (x : Refusal) → MayRefuse (plan_for t) x → Tells t x
unfolding const_plan check_plan run_plan
may_tell (Const query) x may = elim (document_refuses (AsQuery no_types) query (λ tree. answered (bare_items tree)) x may) [
  | inl tells ↦ tells_at (Const query) (AsQuery no_types) x refl tells
  | inr later ↦ absurd (items_refuse (bare_items later.0) x later.1)
]
may_tell (Check schema_name data_name) x may = elim (document_refuses AsSchema schema_name (λ schema. counted_plan schema data_name) x may) [
  | inl tells ↦ tells_at (Check schema_name data_name) AsSchema x (inl refl) tells
  | inr later ↦ counted_refuses (Check schema_name data_name) later.0 data_name x (inr refl) later.1
]
may_tell (Run schema_name data_name query_name args_name) x may =
    elim (document_refuses AsSchema schema_name (λ schema. stored_plan schema data_name query_name args_name) x may) [
      | inl tells ↦ tells_at (Run schema_name data_name query_name args_name) AsSchema x (inl refl) tells
      | inr later ↦ stored_refuses schema_name data_name query_name later.0 args_name x later.1
    ]

-- The plan of a task reads the documents of the task alone.
pub may_read : (t : Task) (d : Doc) → MayRead (plan_for t) d → Reads t d
unfolding const_plan check_plan run_plan
may_read (Const query) d may = elim (document_reads (AsQuery no_types) query (λ tree. answered (bare_items tree)) d may) [
  | inl e ↦ e
  | inr later ↦ absurd (items_read (bare_items later.0) d later.1)
]
may_read (Check schema_name data_name) d may = elim (document_reads AsSchema schema_name (λ schema. counted_plan schema data_name) d may) [
  | inl e ↦ inl e
  | inr later ↦ inr (counted_reads later.0 data_name d later.1)
]
may_read (Run schema_name data_name query_name args_name) d may =
    elim (document_reads AsSchema schema_name (λ schema. stored_plan schema data_name query_name args_name) d may) [
      | inl e ↦ inl e
      | inr later ↦ inr (stored_reads schema_name data_name query_name later.0 args_name d later.1)
    ]
