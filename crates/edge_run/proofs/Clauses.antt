-- The clauses of the top call, from one run.
use Rattle.std.proofs.Common.{◌≡◌, ℕ, List, Option, Result, Ok, Err, ◌⊎◌, inl, inr, Contains, refl, sym, ◌∙◌, subst, rules}
use Rattle.ev_io.specs.Count.{Rose}
use Rattle.ev_io.specs.Shelf.{ShelfView}
use Rattle.ev_io.specs.Sink.{SinkView}
use Rattle.ev_value.specs.declared.item.Fault.{Fault}
use Rattle.edge_run.specs.Deliver.{Delivers, PutsLine, unwritten_of}
use Rattle.edge_run.specs.Plan.{Plan, Goes, Verdict, Answers, Refuses, Faults, Missing, MayRefuse, MayRead, Comes}
use Rattle.edge_run.specs.Refusal.{Refusal, Usage, TooLong, Schema, Data, Query, Args, told}
use Rattle.edge_run.specs.Run.{Runs, Over, IsDue, IsCaused, IsComplete, IsAlong}
use Rattle.edge_run.specs.Ends.{ComesTo, Serves}
use Rattle.edge_run.specs.declared.outcome.Chan.TheVariants as chan
use Rattle.edge_run.specs.declared.outcome.Doc.{Doc}
use Rattle.edge_run.specs.declared.outcome.Outcome.{Outcome}
use Rattle.edge_run.specs.declared.outcome.Outcome.TheVariants as outcome
use Rattle.edge_run.proofs.Told.{told_same, told_not_memory, told_not_read, told_not_fault}
use Rattle.edge_run.proofs.PlanLaws.{judged, Judged, possible, Possible, Follows, along}

ok_not_err : (a : List ℕ) (o : Outcome) → ◌≡◌ {A = Result (List ℕ) Outcome} (Ok a) (Err o) → ⊥
ok_not_err a o e = search rules

err_is : (d o : Outcome) → ◌≡◌ {A = Result (List ℕ) Outcome} (Err d) (Err o) → d ≡ o
err_is d o e = cc

ok_is : (a b : List ℕ) → ◌≡◌ {A = Result (List ℕ) Outcome} (Ok a) (Ok b) → a ≡ b
ok_is a b e = cc

fault_not_memory : (f : Fault) → outcome.RunFault f ≡ outcome.Memory → ⊥
fault_not_memory f e = search rules

fault_not_read : (f : Fault) (d : Doc) → outcome.RunFault f ≡ outcome.ReadFault d → ⊥
fault_not_read f d e = search rules

fault_same : (f g : Fault) → outcome.RunFault f ≡ outcome.RunFault g → f ≡ g
fault_same f g e = search rules

-- ---- from what was answered to what is due

answers_of : (files : List ℕ → Option (List ℕ)) (p : Plan (List ℕ)) (text : List ℕ) (a b : ℕ) → Judged files p a (Ok text) b → Comes files p (Answers text)
answers_of files p text a b (inl e) = absurd (ok_not_err _ _ e)
answers_of files p text a b (inr (inl (d, may, e, rose))) = absurd (ok_not_err _ _ e)
answers_of files p text a b (inr (inr (Answers x, comes, e))) = subst (λ t. Comes files p (Answers t)) (sym (ok_is _ _ e)) comes
answers_of files p text a b (inr (inr (Refuses x, comes, e))) = absurd (ok_not_err _ _ e)
answers_of files p text a b (inr (inr (Faults fs, comes, (f, among, e)))) = absurd (ok_not_err _ _ e)
answers_of files p text a b (inr (inr (Missing d, comes, e))) = absurd e

refuses_of : (files : List ℕ → Option (List ℕ)) (p : Plan (List ℕ)) (x : Refusal) (a b : ℕ) → Judged files p a (Err (told x)) b → Comes files p (Refuses x)
refuses_of files p x a b (inl e) = absurd (told_not_memory x (err_is _ _ e))
refuses_of files p x a b (inr (inl (d, may, e, rose))) = absurd (told_not_read x d (err_is _ _ e))
refuses_of files p x a b (inr (inr (Answers t, comes, e))) = absurd (ok_not_err _ _ (sym e))
refuses_of files p x a b (inr (inr (Refuses y, comes, e))) = subst (λ z. Comes files p (Refuses z)) (sym (told_same x y (err_is _ _ e))) comes
refuses_of files p x a b (inr (inr (Faults fs, comes, (f, among, e)))) = absurd (told_not_fault x f (err_is _ _ e))
refuses_of files p x a b (inr (inr (Missing d, comes, e))) = absurd e

faults_of : (files : List ℕ → Option (List ℕ)) (p : Plan (List ℕ)) (f : Fault) (a b : ℕ) → Judged files p a (Err (outcome.RunFault f)) b
    → (fs : List Fault) × Comes files p (Faults fs) × Contains fs f
faults_of files p f a b (inl e) = absurd (fault_not_memory f (err_is _ _ e))
faults_of files p f a b (inr (inl (d, may, e, rose))) = absurd (fault_not_read f d (err_is _ _ e))
faults_of files p f a b (inr (inr (Answers t, comes, e))) = absurd (ok_not_err _ _ (sym e))
faults_of files p f a b (inr (inr (Refuses y, comes, e))) = absurd (told_not_fault y f (sym (err_is _ _ e)))
faults_of files p f a b (inr (inr (Faults fs, comes, (g, among, e)))) = (fs, comes, subst (λ x. Contains fs x) (sym (fault_same f g (err_is _ _ e))) among)
faults_of files p f a b (inr (inr (Missing d, comes, e))) = absurd e

module _ (plan : Plan (List ℕ)) (shelf shelf' : ShelfView) (out out' err err' : SinkView) (result : Outcome) where
  abbrev Caused : Outcome → Type 0
  Caused o = IsCaused plan shelf shelf' out out' err err' o

  abbrev Due : Outcome → Type 0
  Due o = IsDue plan shelf shelf' out out' err err' o

  abbrev Line : Outcome → Type 0
  Line o = PutsLine o err err' result

  -- an end that is due, and whose line was put or failed so
  due_caused : (o : Outcome) → Due o → out' ≡ out → Line o → Caused result
  due_caused outcome.Done due same line = absurd due
  due_caused (outcome.WriteFault c) due same line = absurd due
  due_caused outcome.Memory due same line = absurd due
  due_caused (outcome.Usage u) due same (inl (is, took)) = subst Caused (sym is) (due, (same, took))
  due_caused (outcome.Usage u) due same (inr (is, failed)) = subst Caused (sym is) (same, outcome.Usage u, due, failed)
  due_caused (outcome.ReadFault d) due same (inl (is, took)) = subst Caused (sym is) (due, (same, took))
  due_caused (outcome.ReadFault d) due same (inr (is, failed)) = subst Caused (sym is) (same, outcome.ReadFault d, due, failed)
  due_caused (outcome.TooLong d) due same (inl (is, took)) = subst Caused (sym is) (due, (same, took))
  due_caused (outcome.TooLong d) due same (inr (is, failed)) = subst Caused (sym is) (same, outcome.TooLong d, due, failed)
  due_caused (outcome.SchemaRefused r) due same (inl (is, took)) = subst Caused (sym is) (due, (same, took))
  due_caused (outcome.SchemaRefused r) due same (inr (is, failed)) = subst Caused (sym is) (same, outcome.SchemaRefused r, due, failed)
  due_caused (outcome.DataRefused b) due same (inl (is, took)) = subst Caused (sym is) (due, (same, took))
  due_caused (outcome.DataRefused b) due same (inr (is, failed)) = subst Caused (sym is) (same, outcome.DataRefused b, due, failed)
  due_caused (outcome.ArgsRefused b) due same (inl (is, took)) = subst Caused (sym is) (due, (same, took))
  due_caused (outcome.ArgsRefused b) due same (inr (is, failed)) = subst Caused (sym is) (same, outcome.ArgsRefused b, due, failed)
  due_caused (outcome.QueryRefused r) due same (inl (is, took)) = subst Caused (sym is) (due, (same, took))
  due_caused (outcome.QueryRefused r) due same (inr (is, failed)) = subst Caused (sym is) (same, outcome.QueryRefused r, due, failed)
  due_caused (outcome.RunFault f) due same (inl (is, took)) = subst Caused (sym is) (due, (same, took))
  due_caused (outcome.RunFault f) due same (inr (is, failed)) = subst Caused (sym is) (same, outcome.RunFault f, due, failed)

  memory_caused : out' ≡ out → Line outcome.Memory → Caused result
  memory_caused same (inl (is, took)) = subst Caused (sym is) (same, inl took)
  memory_caused same (inr (is, failed)) = subst Caused (sym is) (same, inr failed)

  -- the rule that was told refuses what the names hold
  refuses_held : (x : Refusal) → Goes plan shelf (Err (told x)) shelf' → Over shelf (λ files. Comes files plan (Refuses x))
  refuses_held x went files held = refuses_of files plan x _ _ (judged plan shelf shelf' _ files went held)

  refusal_caused : (x : Refusal) → MayRefuse plan x → Goes plan shelf (Err (told x)) shelf' → out' ≡ out → Line (told x) → Caused result
  refusal_caused (Usage u) may went same line = due_caused (outcome.Usage u) (may, refuses_held (Usage u) went) same line
  refusal_caused (TooLong d) may went same line = due_caused (outcome.TooLong d) (may, refuses_held (TooLong d) went) same line
  refusal_caused (Schema r) may went same line = due_caused (outcome.SchemaRefused r) (may, refuses_held (Schema r) went) same line
  refusal_caused (Data b) may went same line = due_caused (outcome.DataRefused b) (may, refuses_held (Data b) went) same line
  refusal_caused (Args b) may went same line = due_caused (outcome.ArgsRefused b) (may, refuses_held (Args b) went) same line
  refusal_caused (Query r) may went same line = due_caused (outcome.QueryRefused r) (may, refuses_held (Query r) went) same line

  -- what was answered, in its kind
  err_caused : (o : Outcome) → Goes plan shelf (Err o) shelf' → out' ≡ out → Line o → Possible plan shelf.faults (Err o) shelf'.faults → Caused result
  err_caused o went same line (inl e) = memory_caused same (subst Line (err_is _ _ e) line)
  err_caused o went same line (inr (inl (d, may, e, rose))) = due_caused (outcome.ReadFault d) (may, rose) same (subst Line (err_is _ _ e) line)
  err_caused o went same line (inr (inr (inl (t, e)))) = absurd (ok_not_err _ _ (sym e))
  err_caused o went same line (inr (inr (inr (inl (x, may, e))))) =
      refusal_caused x may (subst (λ p. Goes plan shelf (Err p) shelf') (err_is _ _ e) went) same (subst Line (err_is _ _ e) line)
  err_caused o went same line (inr (inr (inr (inr (f, e))))) =
      due_caused (outcome.RunFault f)
      (λ files held. faults_of files plan f _ _ (judged plan shelf shelf' _ files (subst (λ p. Goes plan shelf (Err p) shelf') (err_is _ _ e) went) held))
      same (subst Line (err_is _ _ e) line)

  caused_at : (answer : Result (List ℕ) Outcome) → Goes plan shelf answer shelf' → Delivers answer out out' err err' result → Caused result
  caused_at (Ok text) went (same, inl (is, took)) = subst Caused (sym is) (same, text, (λ files held. answers_of files plan text _ _ (judged plan shelf shelf' _ files went held)), took)
  caused_at (Ok text) went (same, inr (is, failed)) = subst Caused (sym is) (same, text, (λ files held. answers_of files plan text _ _ (judged plan shelf shelf' _ files went held)), failed)
  caused_at (Err o) went (same, inl line) = err_caused o went same line (possible plan shelf shelf' (Err o) went)
  caused_at (Err o) went (same, inr line) = memory_caused same line

  pub caused : Runs plan shelf shelf' out out' err err' result → Caused result
  caused run = caused_at run.answer run.went run.delivered

  -- ---- what is due is answered

  memory_told : Line outcome.Memory → result ≡ outcome.Memory
  memory_told (inl (is, took)) = is
  memory_told (inr (is, failed)) = is

  abbrev OrMemory : Type 0 → Type 0
  OrMemory claim = (result ≡ outcome.Memory) ⊎ claim

  or_memory : {B C : Type 0} → (B → C) → OrMemory B → OrMemory C
  or_memory f (inl e) = inl e
  or_memory f (inr b) = inr (f b)

  ends : (o : Outcome) → unwritten_of o ≡ outcome.WriteFault chan.Err → Delivers (Err o) out out' err err' result → OrMemory (ComesTo out out' err err' result o)
  ends o other (same, inl (inl (is, took))) = inr (inl (is, same, took))
  ends o other (same, inl (inr (is, failed))) = inr (inr (is ∙ other, same, failed))
  ends o other (same, inr line) = inl (memory_told line)

  unwritten_told : (x : Refusal) → unwritten_of (told x) ≡ outcome.WriteFault chan.Err
  unwritten_told (Usage u) = refl
  unwritten_told (TooLong d) = refl
  unwritten_told (Schema r) = refl
  unwritten_told (Data b) = refl
  unwritten_told (Query r) = refl
  unwritten_told (Args b) = refl

  answered : (text : List ℕ) → Delivers (Ok text) out out' err err' result → Serves out out' err err' result (Answers text)
  answered text (same, inl (is, took)) = inl (is, same, took)
  answered text (same, inr (is, failed)) = inr (is, same, failed)

  met : (v : Verdict (List ℕ)) (answer : Result (List ℕ) Outcome) → Follows v answer → Delivers answer out out' err err' result
      → OrMemory (Serves out out' err err' result v)
  met (Answers text) answer e delivered = inr (answered text (subst (λ a. Delivers a out out' err err' result) e delivered))
  met (Refuses x) answer e delivered = ends (told x) (unwritten_told x) (subst (λ a. Delivers a out out' err err' result) e delivered)
  met (Faults fs) answer (f, among, e) delivered =
      or_memory (λ end. (f, among, end)) (ends (outcome.RunFault f) refl (subst (λ a. Delivers a out out' err err' result) e delivered))
  met (Missing d) answer e delivered = absurd e

  memory_is : Delivers (Err outcome.Memory) out out' err err' result → result ≡ outcome.Memory
  memory_is (same, inl line) = memory_told line
  memory_is (same, inr line) = memory_told line

  complete_at : (files : List ℕ → Option (List ℕ)) (answer : Result (List ℕ) Outcome) → Judged files plan shelf.faults answer shelf'.faults
      → Delivers answer out out' err err' result
      → OrMemory ((Rose shelf.faults shelf'.faults × (d : Doc) × MayRead plan d × ComesTo out out' err err' result (outcome.ReadFault d))
      ⊎ ((v : Verdict (List ℕ)) × Comes files plan v × Serves out out' err err' result v))
  complete_at files answer (inl e) delivered = inl (memory_is (subst (λ a. Delivers a out out' err err' result) e delivered))
  complete_at files answer (inr (inl (d, may, e, rose))) delivered =
      or_memory (λ end. inl (rose, d, may, end)) (ends (outcome.ReadFault d) refl (subst (λ a. Delivers a out out' err err' result) e delivered))
  complete_at files answer (inr (inr (v, comes, e))) delivered = or_memory (λ meets. inr (v, comes, meets)) (met v answer e delivered)

  pub complete : Runs plan shelf shelf' out out' err err' result → IsComplete plan shelf shelf' out out' err err' result
  complete run files held = complete_at files run.answer (judged plan shelf shelf' _ files run.went held) run.delivered

  pub called : Runs plan shelf shelf' out out' err err' result → IsAlong plan shelf shelf' out out' err err' result
  called run = let a = along plan shelf shelf' run.answer run.went in record { answer = run.answer; made = a.0; along = a.1; calls = a.2; delivered = run.delivered }
