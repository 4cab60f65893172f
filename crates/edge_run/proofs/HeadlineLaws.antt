-- The headline, from one run.
use Rattle.std.proofs.Common.{◌≡◌, ℕ, List, Option, Some, Result, Err, ◌⊎◌, inl, inr, sym, subst}
use Rattle.ev_io.specs.Count.{Rose}
use Rattle.ev_io.specs.Shelf.{ShelfView}
use Rattle.ev_io.specs.Sink.{SinkView}
use Rattle.edge_run.specs.Deliver.{Delivers, PutsLine}
use Rattle.edge_run.specs.Due.{Due}
use Rattle.edge_run.specs.Headline.{IsDueFor, IsRefusal, IsCauseOf, IsHeadline, FailsToRead, IsExact}
use Rattle.edge_run.specs.Ends.{ComesTo, Serves}
use Rattle.edge_run.specs.Modes.{plan_of}
use Rattle.edge_run.specs.Plan.{Plan, Goes, Verdict, Answers, Refuses, Faults, Refuse, Comes, MayRead}
use Rattle.edge_run.specs.Refusal.{Refusal, Usage, TooLong, Schema, Data, Query, Args}
use Rattle.edge_run.specs.Run.{Runs, Over, IsRefusalDue, IsDue, IsCaused, IsComplete}
use Rattle.edge_run.specs.Task.{Task, Asks, FailsUsage}
use Rattle.edge_run.specs.declared.outcome.Chan.TheVariants as chan
use Rattle.edge_run.specs.declared.outcome.Doc.{Doc}
use Rattle.edge_run.specs.declared.outcome.UsageRule.{UsageRule}
use Rattle.edge_run.specs.declared.outcome.Outcome.{Outcome}
use Rattle.edge_run.specs.declared.outcome.Outcome.TheVariants as outcome
use Rattle.edge_run.proofs.Clauses.{caused, complete}
use Rattle.edge_run.proofs.TaskLaws.{plan_for, comes_due, may_tell, may_read}
use Rattle.edge_run.proofs.WordLaws.{task_plan, usage_plan, Asked, asked}

-- a run of words that fail a rule
usage_ends : (u : UsageRule) (old new : ShelfView) (r : Result (List ℕ) Outcome) → Goes (Refuse (Usage u)) old r new
    → (r ≡ Err outcome.Memory) ⊎ (r ≡ Err (outcome.Usage u))
unfolding Goes
usage_ends u old new r (inl s) = inl s.0
usage_ends u old new r (inr (e, is)) = inr e

module _ (words : List (List ℕ)) (shelf shelf' : ShelfView) (out out' err err' : SinkView) (result : Outcome) where
  abbrev Line : Outcome → Type 0
  Line o = (out' ≡ out) × PutsLine o err err' result

  abbrev Headline : Outcome → Type 0
  Headline o = IsHeadline words shelf shelf' out out' err err' o

  abbrev ComesTo' : Outcome → Type 0
  ComesTo' o = ComesTo out out' err err' result o

  abbrev OrMemory : Type 0 → Type 0
  OrMemory claim = (result ≡ outcome.Memory) ⊎ claim

  or_memory : {B C : Type 0} → (B → C) → OrMemory B → OrMemory C
  or_memory f (inl e) = inl e
  or_memory f (inr b) = inr (f b)

  -- ---- a run of words that fail a rule

  -- the line of the end, or that there was no memory for it
  line_at : (answer : Result (List ℕ) Outcome) (o : Outcome) → answer ≡ Err o → Delivers answer out out' err err' result → Line o ⊎ Line outcome.Memory
  line_at answer o e delivered = by (subst (λ a. Delivers a out out' err err' result) e delivered)
    where
      by : Delivers (Err o) out out' err err' result → Line o ⊎ Line outcome.Memory
      by (same, inl line) = inl (same, line)
      by (same, inr line) = inr (same, line)

  memory : Line outcome.Memory → Headline result
  memory (same, inl (is, took)) = subst Headline (sym is) (same, inl took)
  memory (same, inr (is, failed)) = subst Headline (sym is) (same, inr failed)

  usage_line : (u : UsageRule) → FailsUsage u words → Line (outcome.Usage u) → Headline result
  usage_line u fails (same, inl (is, took)) = subst Headline (sym is) (fails, same, took)
  usage_line u fails (same, inr (is, failed)) = subst Headline (sym is) (same, outcome.Usage u, fails, failed)

  usage_or_memory : (u : UsageRule) → FailsUsage u words → Line (outcome.Usage u) ⊎ Line outcome.Memory → Headline result
  usage_or_memory u fails (inl line) = usage_line u fails line
  usage_or_memory u fails (inr line) = memory line

  either_memory : Line outcome.Memory ⊎ Line outcome.Memory → Line outcome.Memory
  either_memory (inl line) = line
  either_memory (inr line) = line

  usage_headline : (u : UsageRule) → FailsUsage u words → (answer : Result (List ℕ) Outcome) → (answer ≡ Err outcome.Memory) ⊎ (answer ≡ Err (outcome.Usage u))
      → Delivers answer out out' err err' result → Headline result
  usage_headline u fails answer (inl e) delivered = memory (either_memory (line_at answer _ e delivered))
  usage_headline u fails answer (inr e) delivered = usage_or_memory u fails (line_at answer _ e delivered)

  memory_is : Line outcome.Memory → result ≡ outcome.Memory
  memory_is (same, inl (is, took)) = is
  memory_is (same, inr (is, failed)) = is

  usage_comes : (u : UsageRule) → Line (outcome.Usage u) ⊎ Line outcome.Memory → OrMemory (ComesTo' (outcome.Usage u))
  usage_comes u (inl (same, inl (is, took))) = inr (inl (is, same, took))
  usage_comes u (inl (same, inr (is, failed))) = inr (inr (is, same, failed))
  usage_comes u (inr line) = inl (memory_is line)

  usage_at : (u : UsageRule) (answer : Result (List ℕ) Outcome) → (answer ≡ Err outcome.Memory) ⊎ (answer ≡ Err (outcome.Usage u))
      → Delivers answer out out' err err' result → OrMemory (ComesTo' (outcome.Usage u))
  usage_at u answer (inl e) delivered = inl (memory_is (either_memory (line_at answer _ e delivered)))
  usage_at u answer (inr e) delivered = usage_comes u (line_at answer _ e delivered)

  usage_goes : (u : UsageRule) → FailsUsage u words → (answer : Result (List ℕ) Outcome) → Goes (plan_of words) shelf answer shelf'
      → (answer ≡ Err outcome.Memory) ⊎ (answer ≡ Err (outcome.Usage u))
  usage_goes u fails answer went = usage_ends u shelf shelf' answer (subst (λ p. Goes p shelf answer shelf') (usage_plan words u fails) went)

  -- ---- a run of a task

  module _ (t : Task) (asks : Asks words t) where
    abbrev Plan_of : Plan (List ℕ)
    Plan_of = plan_for t

    -- what the plan comes to is due, where the shelf tells its bytes
    over_due : (v : Verdict (List ℕ)) → Over shelf (λ files. Comes files Plan_of v) → IsDueFor words shelf shelf' t v
    over_due v held = (asks, λ files is. comes_due t files v (held files is))

    refusal_cause : (x : Refusal) → IsRefusalDue Plan_of shelf shelf' out out' err err' x → IsRefusal words shelf shelf' x
    refusal_cause x (may, held) = (t, may_tell t x may, over_due (Refuses x) held)

    cause : (o : Outcome) → IsDue Plan_of shelf shelf' out out' err err' o → IsCauseOf words shelf shelf' o
    cause outcome.Done due = due
    cause (outcome.Usage u) (may, held) = absurd (may_tell t (Usage u) may)
    cause (outcome.ReadFault d) (may, rose) = (t, asks, may_read t d may, rose)
    cause (outcome.TooLong d) due = refusal_cause (TooLong d) due
    cause (outcome.WriteFault c) due = due
    cause (outcome.SchemaRefused r) due = refusal_cause (Schema r) due
    cause (outcome.DataRefused b) due = refusal_cause (Data b) due
    cause (outcome.ArgsRefused b) due = refusal_cause (Args b) due
    cause (outcome.QueryRefused r) due = refusal_cause (Query r) due
    cause (outcome.RunFault f) held =
        (t, asks, λ files is. let h = held files is in (h.0, comes_due t files (Faults h.0) h.1, h.2))
    cause outcome.Memory due = due

    from_caused : (o : Outcome) → IsCaused Plan_of shelf shelf' out out' err err' o → Headline o
    from_caused outcome.Done (same, text, held, took) = (same, text, (t, over_due (Answers text) held), took)
    from_caused (outcome.WriteFault chan.Out) (same, text, held, failed) = (same, text, (t, over_due (Answers text) held), failed)
    from_caused (outcome.WriteFault chan.Err) (same, o, due, failed) = (same, o, cause o due, failed)
    from_caused outcome.Memory line = line
    from_caused (outcome.Usage u) (due, (same, took)) = (cause (outcome.Usage u) due, same, took)
    from_caused (outcome.ReadFault d) (due, (same, took)) = (cause (outcome.ReadFault d) due, same, took)
    from_caused (outcome.TooLong d) (due, (same, took)) = (cause (outcome.TooLong d) due, same, took)
    from_caused (outcome.SchemaRefused r) (due, (same, took)) = (cause (outcome.SchemaRefused r) due, same, took)
    from_caused (outcome.DataRefused b) (due, (same, took)) = (cause (outcome.DataRefused b) due, same, took)
    from_caused (outcome.ArgsRefused b) (due, (same, took)) = (cause (outcome.ArgsRefused b) due, same, took)
    from_caused (outcome.QueryRefused r) (due, (same, took)) = (cause (outcome.QueryRefused r) due, same, took)
    from_caused (outcome.RunFault f) (due, (same, took)) = (cause (outcome.RunFault f) due, same, took)

    -- what the run of the plan answers is exact
    from_complete : IsComplete Plan_of shelf shelf' out out' err err' result → (files : List ℕ → Option (List ℕ)) → shelf.held ≡ Some files
        → OrMemory (FailsToRead words shelf shelf' out out' err err' result t ⊎ ((v : Verdict (List ℕ)) × Due t files v × Serves out out' err err' result v))
    from_complete whole files held = by (whole files held)
      where
        by : OrMemory ((Rose shelf.faults shelf'.faults × (d : Doc) × MayRead Plan_of d × ComesTo out out' err err' result (outcome.ReadFault d))
            ⊎ ((v : Verdict (List ℕ)) × Comes files Plan_of v × Serves out out' err err' result v))
            → OrMemory (FailsToRead words shelf shelf' out out' err err' result t ⊎ ((v : Verdict (List ℕ)) × Due t files v × Serves out out' err err' result v))
        by (inl e) = inl e
        by (inr (inl (rose, d, may, comes))) = inr (inl (rose, d, may_read t d may, comes))
        by (inr (inr (v, comes, serves))) = inr (inr (v, comes_due t files v comes, serves))

    runs_for : Runs (plan_of words) shelf shelf' out out' err err' result → Runs Plan_of shelf shelf' out out' err err' result
    runs_for run = subst (λ p. Runs p shelf shelf' out out' err err' result) (task_plan words t asks) run

    pub task_headline : Runs (plan_of words) shelf shelf' out out' err err' result → Headline result
    task_headline run = from_caused result (caused Plan_of shelf shelf' out out' err err' result (runs_for run))

    pub task_exact : Runs (plan_of words) shelf shelf' out out' err err' result → (files : List ℕ → Option (List ℕ)) → shelf.held ≡ Some files
        → OrMemory (FailsToRead words shelf shelf' out out' err err' result t ⊎ ((v : Verdict (List ℕ)) × Due t files v × Serves out out' err err' result v))
    task_exact run = from_complete (complete Plan_of shelf shelf' out out' err err' result (runs_for run))

  headline_at : Asked words → Runs (plan_of words) shelf shelf' out out' err err' result → Headline result
  headline_at (inl (u, fails)) run = usage_headline u fails run.answer (usage_goes u fails run.answer run.went) run.delivered
  headline_at (inr (t, asks)) run = task_headline t asks run

  pub headline : Runs (plan_of words) shelf shelf' out out' err err' result → Headline result
  headline run = headline_at (asked words) run

  pub exact : Runs (plan_of words) shelf shelf' out out' err err' result → IsExact words shelf shelf' out out' err err' result
  exact run = record {
    usage = λ u fails. usage_at u run.answer (usage_goes u fails run.answer run.went) run.delivered;
    task = λ t asks. task_exact t asks run;
  }
