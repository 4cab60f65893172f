-- What is decided of a text of arguments.
use Rattle.std.proofs.Common.{◌≡◌, ℕ, List, [], Result, Ok, Err, ◌⊎◌, inl, inr, refl, sym, ap, ◌∙◌, subst, rules}
use Rattle.serde_json.specs.Data.{Data}
use Rattle.db_load.specs.Arguments.{IsLoaded, args_of}
use Rattle.db_load.specs.Arguments as args
use Rattle.db_load.specs.declared.refusal.ArgsRefusal.{ArgsRefusal}
use Rattle.db_load.specs.declared.refusal.ArgsRefusal.TheVariants as load
use Rattle.db_load.specs.declared.refusal.BrokenArgs.{BrokenArgs}
use Rattle.ev_schema.specs.declared.schema.Schema.{Schema}
use Rattle.ev_value.specs.declared.args.Args.{Args}
use Rattle.edge_run.specs.Args.{AreArgs, IsRefused, Decides}
use Rattle.edge_run.specs.Judgement.{AsArgs, IsDecided}
use Rattle.edge_run.specs.Refusal.{Refusal, Usage, TooLong, Query}
use Rattle.edge_run.specs.Refusal as refused
use Rattle.edge_run.specs.declared.outcome.Outcome.TheVariants as outcome
use Rattle.edge_run.proofs.DataLaws.{one_value}

-- ---- what the code answers

pub loaded_is_decided : (s : Schema) (text : List ℕ) (a : Args) → IsLoaded text s [] (Ok a) → IsDecided (AsArgs s) text (Ok a)
loaded_is_decided s text a is = inr (Ok a, is, refl)

pub refused_is_decided : (s : Schema) (text : List ℕ) (b : BrokenArgs) → IsLoaded text s [] (Err (load.Rule b))
    → IsDecided (AsArgs s) text (Err (outcome.ArgsRefused b))
refused_is_decided s text b is = inr (Err (refused.Args b), is, refl)

-- ---- of each text at most one thing is decided

abbrev NotMemory : Result Args ArgsRefusal → Type 0
NotMemory r = r ≡ Err load.Memory → ⊥

one_load : (s : Schema) (text : List ℕ) (a b : Result Args ArgsRefusal) → NotMemory a → NotMemory b → IsLoaded text s [] a → IsLoaded text s [] b → a ≡ b
one_load s text a b is is' (inl m) y = absurd (is m)
one_load s text a b is is' (inr x) (inl m) = absurd (is' m)
one_load s text a b is is' (inr (inl (d, says, e))) (inr (inl (c, says', e'))) =
    e ∙ ap (λ (x : Data). args.told (args_of s [] x)) (one_value text d c says says') ∙ sym e'
one_load s text a b is is' (inr (inl (d, says, e))) (inr (inr (none, e'))) = absurd (none d says)
one_load s text a b is is' (inr (inr (none, e))) (inr (inl (d, says, e'))) = absurd (none d says)
one_load s text a b is is' (inr (inr (none, e))) (inr (inr (none', e'))) = e ∙ sym e'

args_are : (a b : Args) → ◌≡◌ {A = Result Args ArgsRefusal} (Ok a) (Ok b) → a ≡ b
args_are a b e = cc

broken_is : (a b : BrokenArgs) → ◌≡◌ {A = Result Args ArgsRefusal} (Err (load.Rule a)) (Err (load.Rule b)) → a ≡ b
broken_is a b e = search rules

args_not_broken : (a : Args) (b : BrokenArgs) → ◌≡◌ {A = Result Args ArgsRefusal} (Ok a) (Err (load.Rule b)) → ⊥
args_not_broken a b e = search rules

args_stand : (a : Args) → NotMemory (Ok a)
args_stand a e = search rules

broken_stands : (b : BrokenArgs) → NotMemory (Err (load.Rule b))
broken_stands b e = search rules

args_or_broken : (s : Schema) (text : List ℕ) (a : Args) (b : BrokenArgs) → AreArgs s text a → IsRefused s text b → ⊥
args_or_broken s text a b is is' = args_not_broken a b (one_load s text (Ok a) (Err (load.Rule b)) (args_stand a) (broken_stands b) is is')

pub one_decision : (s : Schema) (text : List ℕ) (a b : Result Args Refusal) → Decides s text a → Decides s text b → a ≡ b
one_decision s text (Ok a) (Ok b) is is' = ap Ok (args_are a b (one_load s text (Ok a) (Ok b) (args_stand a) (args_stand b) is is'))
one_decision s text (Ok a) (Err (Usage u)) is is' = absurd is'
one_decision s text (Ok a) (Err (TooLong d)) is is' = absurd is'
one_decision s text (Ok a) (Err (refused.Schema r)) is is' = absurd is'
one_decision s text (Ok a) (Err (refused.Data b)) is is' = absurd is'
one_decision s text (Ok a) (Err (Query r)) is is' = absurd is'
one_decision s text (Ok a) (Err (refused.Args b)) is is' = absurd (args_or_broken s text a b is is')
one_decision s text (Err (Usage u)) b is is' = absurd is
one_decision s text (Err (refused.Schema r)) b is is' = absurd is
one_decision s text (Err (refused.Data c)) b is is' = absurd is
one_decision s text (Err (Query r)) b is is' = absurd is
one_decision s text (Err (TooLong d)) b is is' = absurd is
one_decision s text (Err (refused.Args b)) (Ok a) is is' = absurd (args_or_broken s text a b is' is)
one_decision s text (Err (refused.Args b)) (Err (Usage u)) is is' = absurd is'
one_decision s text (Err (refused.Args b)) (Err (TooLong d)) is is' = absurd is'
one_decision s text (Err (refused.Args b)) (Err (refused.Schema r)) is is' = absurd is'
one_decision s text (Err (refused.Args b)) (Err (refused.Data c)) is is' = absurd is'
one_decision s text (Err (refused.Args b)) (Err (Query q)) is is' = absurd is'
one_decision s text (Err (refused.Args b)) (Err (refused.Args c)) is is' =
    ap (λ (x : BrokenArgs). Err (refused.Args x))
    (broken_is b c (one_load s text (Err (load.Rule b)) (Err (load.Rule c)) (broken_stands b) (broken_stands c) is is'))
