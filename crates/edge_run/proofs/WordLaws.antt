-- What words ask for, and the plan of these words.
use Rattle.std.proofs.Common.{◌≡◌, ◌≢◌, ℕ, List, [], ◌∷◌, Option, Some, None, ◌⊎◌, inl, inr, Bool, true, false, codes, refl, sym, ap, ◌∙◌, rules}
use Rattle.std.specs.Str.{bytes_eq}
use Rattle.std.proofs.lemmas.Slice.Eq.{bytes_eq-Decides}
use Rattle.edge_run.specs.Modes.{mode_plan, plan_of, const_plan, check_plan, run_plan}
use Rattle.edge_run.specs.Plan.{Refuse}
use Rattle.edge_run.specs.Refusal.{Usage}
use Rattle.edge_run.specs.Task.{Task, Const, Check, Run, Asks, FailsUsage, words_of}
use Rattle.edge_run.specs.declared.outcome.UsageRule.{UsageRule}
use Rattle.edge_run.specs.declared.outcome.UsageRule.TheVariants as rule
use Rattle.edge_run.proofs.TaskLaws.{plan_for}

false_is_not : false ≡ true → ⊥
false_is_not e = search rules

-- the words are equal, or they are not
same_or_other : (a b : List ℕ) → (a ≡ b) ⊎ (a ≢ b)
same_or_other a b = by (bytes_eq a b) refl
  where
    by : (v : Bool) → bytes_eq a b ≡ v → (a ≡ b) ⊎ (a ≢ b)
    by true e = inl ((bytes_eq-Decides a b).0 e)
    by false e = inr (λ is. false_is_not (sym e ∙ (bytes_eq-Decides a b).1 is))

eq_false : (a b : List ℕ) → a ≢ b → bytes_eq a b ≡ false
eq_false a b other = by (bytes_eq a b) refl
  where
    by : (v : Bool) → bytes_eq a b ≡ v → v ≡ false
    by true e = absurd (other ((bytes_eq-Decides a b).0 e))
    by false e = refl

-- ---- the plan of a mode

const_mode : (schema_name data_name query : List ℕ) (args : Option (List ℕ)) → mode_plan (codes "const") schema_name data_name query args ≡ const_plan query
const_mode schema_name data_name query args = refl

check_mode : (schema_name data_name query : List ℕ) (args : Option (List ℕ))
    → mode_plan (codes "check") schema_name data_name query args ≡ check_plan schema_name data_name
check_mode schema_name data_name query args = refl

run_mode : (schema_name data_name query : List ℕ) (args : Option (List ℕ))
    → mode_plan (codes "run") schema_name data_name query args ≡ run_plan schema_name data_name query args
run_mode schema_name data_name query args = refl

no_mode : (mode schema_name data_name query : List ℕ) (args : Option (List ℕ)) → mode ≢ codes "const" → mode ≢ codes "check" → mode ≢ codes "run"
    → mode_plan mode schema_name data_name query args ≡ Refuse (Usage rule.U2)
no_mode mode schema_name data_name query args no_const no_check no_run =
    rw (eq_false mode (codes "const") no_const) (rw (eq_false mode (codes "check") no_check) (rw (eq_false mode (codes "run") no_run) refl))

-- the plan of words of the right form is that of their mode
formed_plan : (mode schema_name data_name query : List ℕ) (args : Option (List ℕ))
    → plan_of (words_of mode schema_name data_name query args) ≡ mode_plan mode schema_name data_name query args
formed_plan mode schema_name data_name query None = refl
formed_plan mode schema_name data_name query (Some args) = refl

pub task_plan : (words : List (List ℕ)) (t : Task) → Asks words t → plan_of words ≡ plan_for t
task_plan words (Const query) (schema_name, data_name, args, are) =
    ap plan_of are ∙ formed_plan (codes "const") schema_name data_name query args ∙ const_mode schema_name data_name query args
task_plan words (Check schema_name data_name) (query, args, are) =
    ap plan_of are ∙ formed_plan (codes "check") schema_name data_name query args ∙ check_mode schema_name data_name query args
task_plan words (Run schema_name data_name query args) are =
    ap plan_of are ∙ formed_plan (codes "run") schema_name data_name query args ∙ run_mode schema_name data_name query args

-- ---- the words fail a rule, or ask for a task

-- the words have the right form, or not
abbrev IsFormed : List (List ℕ) → Type 0
IsFormed words = (mode schema_name data_name query : List ℕ) × (args : Option (List ℕ)) × (words ≡ words_of mode schema_name data_name query args)

abbrev IsUnformed : List (List ℕ) → Type 0
IsUnformed words = FailsUsage rule.U1 words × (plan_of words ≡ Refuse (Usage rule.U1))

unformed : (words : List (List ℕ)) → ((mode schema_name data_name query : List ℕ) → words ≢ mode ∷ schema_name ∷ data_name ∷ query ∷ [])
    → ((mode schema_name data_name query args : List ℕ) → words ≢ mode ∷ schema_name ∷ data_name ∷ query ∷ codes "--args" ∷ args ∷ []) → FailsUsage rule.U1 words
unformed words four six mode schema_name data_name query None are = four mode schema_name data_name query are
unformed words four six mode schema_name data_name query (Some args) are = six mode schema_name data_name query args are

six_words : (mode schema_name data_name query option args : List ℕ) → (option ≡ codes "--args") ⊎ (option ≢ codes "--args")
    → IsFormed (mode ∷ schema_name ∷ data_name ∷ query ∷ option ∷ args ∷ []) ⊎ IsUnformed (mode ∷ schema_name ∷ data_name ∷ query ∷ option ∷ args ∷ [])
six_words mode schema_name data_name query option args (inl e) =
    inl (mode, schema_name, data_name, query, Some args, ap (λ o. mode ∷ schema_name ∷ data_name ∷ query ∷ o ∷ args ∷ []) e)
six_words mode schema_name data_name query option args (inr other) = inr (
  unformed (mode ∷ schema_name ∷ data_name ∷ query ∷ option ∷ args ∷ []) (λ a b c d e. search rules) (λ a b c d e is. other (search rules)),
  rw (eq_false option (codes "--args") other) refl,
)

form : (words : List (List ℕ)) → IsFormed words ⊎ IsUnformed words
form [] = inr (unformed [] (λ a b c d e. search rules) (λ a b c d e is. search rules), refl)
form (a ∷ []) = inr (unformed (a ∷ []) (λ b c d e is. search rules) (λ b c d e f is. search rules), refl)
form (a ∷ b ∷ []) = inr (unformed (a ∷ b ∷ []) (λ c d e f is. search rules) (λ c d e f g is. search rules), refl)
form (a ∷ b ∷ c ∷ []) = inr (unformed (a ∷ b ∷ c ∷ []) (λ d e f g is. search rules) (λ d e f g h is. search rules), refl)
form (a ∷ b ∷ c ∷ d ∷ []) = inl (a, b, c, d, None, refl)
form (a ∷ b ∷ c ∷ d ∷ e ∷ []) = inr (unformed (a ∷ b ∷ c ∷ d ∷ e ∷ []) (λ f g h i is. search rules) (λ f g h i j is. search rules), refl)
form (a ∷ b ∷ c ∷ d ∷ e ∷ f ∷ []) = six_words a b c d e f (same_or_other e (codes "--args"))
form (a ∷ b ∷ c ∷ d ∷ e ∷ f ∷ g ∷ more) =
    inr (unformed (a ∷ b ∷ c ∷ d ∷ e ∷ f ∷ g ∷ more) (λ h i j k is. search rules) (λ h i j k l is. search rules), refl)

pub usage_plan : (words : List (List ℕ)) (u : UsageRule) → FailsUsage u words → plan_of words ≡ Refuse (Usage u)
usage_plan words rule.U1 fails = elim (form words) [
  | inl formed ↦ absurd (fails formed.0 formed.1 formed.2 formed.3 formed.4 formed.5)
  | inr unformed ↦ unformed.1
]
usage_plan words rule.U2 (mode, schema_name, data_name, query, args, are, no_const, no_check, no_run) =
    ap plan_of are ∙ formed_plan mode schema_name data_name query args ∙ no_mode mode schema_name data_name query args no_const no_check no_run

abbrev pub Asked : List (List ℕ) → Type 0
Asked words = ((u : UsageRule) × FailsUsage u words) ⊎ ((t : Task) × Asks words t)

of_mode : (words : List (List ℕ)) (mode schema_name data_name query : List ℕ) (args : Option (List ℕ)) → words ≡ words_of mode schema_name data_name query args
    → (mode ≡ codes "const") ⊎ (mode ≢ codes "const") → (mode ≡ codes "check") ⊎ (mode ≢ codes "check") → (mode ≡ codes "run") ⊎ (mode ≢ codes "run") → Asked words
of_mode words mode schema_name data_name query args are (inl e) check run =
    inr (Const query, (schema_name, data_name, args, are ∙ ap (λ m. words_of m schema_name data_name query args) e))
of_mode words mode schema_name data_name query args are (inr no_const) (inl e) run =
    inr (Check schema_name data_name, (query, args, are ∙ ap (λ m. words_of m schema_name data_name query args) e))
of_mode words mode schema_name data_name query args are (inr no_const) (inr no_check) (inl e) =
    inr (Run schema_name data_name query args, are ∙ ap (λ m. words_of m schema_name data_name query args) e)
of_mode words mode schema_name data_name query args are (inr no_const) (inr no_check) (inr no_run) =
    inl (rule.U2, (mode, schema_name, data_name, query, args, are, no_const, no_check, no_run))

-- the words fail a rule, or ask for a task
pub asked : (words : List (List ℕ)) → Asked words
asked words = elim (form words) [
  | inl formed ↦
      of_mode words formed.0 formed.1 formed.2 formed.3 formed.4 formed.5 (same_or_other formed.0 (codes "const")) (same_or_other formed.0 (codes "check"))
      (same_or_other formed.0 (codes "run"))
  | inr unformed ↦ inl (rule.U1, unformed.0)
]
