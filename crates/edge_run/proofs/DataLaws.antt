-- What is decided of a text of data.
use Rattle.std.proofs.Common.{◌≡◌, ℕ, List, Option, Some, Result, Ok, Err, ◌⊎◌, inl, inr, refl, sym, ap, ◌∙◌, subst, rules}
use Rattle.serde_json.specs.Data.{Data}
use Rattle.db_load.specs.Data.{IsLoaded, stored}
use Rattle.ev_schema.specs.declared.schema.Schema.{Schema}
use Rattle.db_load.specs.Document.{document}
use Rattle.db_load.specs.Text.{Says}
use Rattle.db_draft.specs.declared.refusal.Broken.{Broken}
use Rattle.db_draft.specs.declared.refusal.DataRefusal.{DataRefusal}
use Rattle.db_draft.specs.declared.refusal.DataRefusal.TheVariants as load
use Rattle.db_check.specs.declared.store.Store.{Store}
use Rattle.edge_run.specs.Data.{Decides}
use Rattle.edge_run.specs.Judgement.{AsData, IsDecided}
use Rattle.edge_run.specs.Refusal.{Refusal, Usage, TooLong, Query, Args}
use Rattle.edge_run.specs.Refusal as refused
use Rattle.edge_run.specs.declared.outcome.Outcome.TheVariants as outcome

-- ---- what the code answers

pub loaded_is_decided : (s : Schema) (text : List ℕ) (store : Store) → IsLoaded text s (Ok store) → IsDecided (AsData s) text (Ok store)
loaded_is_decided s text store is = inr (Ok store, is, refl)

pub refused_is_decided : (s : Schema) (text : List ℕ) (b : Broken) → IsLoaded text s (Err (load.Rule b))
    → IsDecided (AsData s) text (Err (outcome.DataRefused b))
refused_is_decided s text b is = inr (Err (refused.Data b), is, refl)

-- ---- of each text at most one thing is decided

some_is : (a b : Data) → ◌≡◌ {A = Option Data} (Some a) (Some b) → a ≡ b
some_is a b e = cc

pub one_value : (text : List ℕ) (a b : Data) → Says text a → Says text b → a ≡ b
one_value text a b is is' = some_is a b (sym is.1 ∙ is'.1)

abbrev NotMemory : Result Store DataRefusal → Type 0
NotMemory r = r ≡ Err load.Memory → ⊥

one_load : (s : Schema) (text : List ℕ) (a b : Result Store DataRefusal) → NotMemory a → NotMemory b → IsLoaded text s a → IsLoaded text s b → a ≡ b
one_load s text a b is is' (inl m) y = absurd (is m)
one_load s text a b is is' (inr x) (inl m) = absurd (is' m)
one_load s text a b is is' (inr (inl (d, says, e))) (inr (inl (c, says', e'))) = e ∙ ap (λ (x : Data). stored s (document x)) (one_value text d c says says') ∙ sym e'
one_load s text a b is is' (inr (inl (d, says, e))) (inr (inr (none, e'))) = absurd (none d says)
one_load s text a b is is' (inr (inr (none, e))) (inr (inl (d, says, e'))) = absurd (none d says)
one_load s text a b is is' (inr (inr (none, e))) (inr (inr (none', e'))) = e ∙ sym e'

store_is : (a b : Store) → ◌≡◌ {A = Result Store DataRefusal} (Ok a) (Ok b) → a ≡ b
store_is a b e = cc

broken_is : (a b : Broken) → ◌≡◌ {A = Result Store DataRefusal} (Err (load.Rule a)) (Err (load.Rule b)) → a ≡ b
broken_is a b e = search rules

store_not_broken : (a : Store) (b : Broken) → ◌≡◌ {A = Result Store DataRefusal} (Ok a) (Err (load.Rule b)) → ⊥
store_not_broken a b e = search rules

store_stands : (a : Store) → NotMemory (Ok a)
store_stands a e = search rules

broken_stands : (b : Broken) → NotMemory (Err (load.Rule b))
broken_stands b e = search rules

pub one_decision : (s : Schema) (text : List ℕ) (a b : Result Store Refusal) → Decides s text a → Decides s text b → a ≡ b
one_decision s text (Ok a) (Ok b) is is' =
    ap Ok (store_is a b (one_load s text (Ok a) (Ok b) (store_stands a) (store_stands b) is is'))
one_decision s text (Ok a) (Err (Usage u)) is is' = absurd is'
one_decision s text (Ok a) (Err (TooLong d)) is is' = absurd is'
one_decision s text (Ok a) (Err (refused.Schema r)) is is' = absurd is'
one_decision s text (Ok a) (Err (refused.Data b)) is is' =
    absurd (store_not_broken a b (one_load s text (Ok a) (Err (load.Rule b)) (store_stands a) (broken_stands b) is is'))
one_decision s text (Ok a) (Err (Query r)) is is' = absurd is'
one_decision s text (Ok a) (Err (Args r)) is is' = absurd is'
one_decision s text (Err (Usage u)) b is is' = absurd is
one_decision s text (Err (refused.Schema r)) b is is' = absurd is
one_decision s text (Err (Query r)) b is is' = absurd is
one_decision s text (Err (Args r)) b is is' = absurd is
one_decision s text (Err (TooLong d)) b is is' = absurd is
one_decision s text (Err (refused.Data b)) (Ok a) is is' =
    absurd (store_not_broken a b (one_load s text (Ok a) (Err (load.Rule b)) (store_stands a) (broken_stands b) is' is))
one_decision s text (Err (refused.Data b)) (Err (Usage u)) is is' = absurd is'
one_decision s text (Err (refused.Data b)) (Err (TooLong d)) is is' = absurd is'
one_decision s text (Err (refused.Data b)) (Err (refused.Schema r)) is is' = absurd is'
one_decision s text (Err (refused.Data b)) (Err (refused.Data c)) is is' =
    ap (λ (x : Broken). Err (refused.Data x)) (broken_is b c (one_load s text (Err (load.Rule b)) (Err (load.Rule c)) (broken_stands b) (broken_stands c) is is'))
one_decision s text (Err (refused.Data b)) (Err (Query q)) is is' = absurd is'
one_decision s text (Err (refused.Data b)) (Err (Args q)) is is' = absurd is'
