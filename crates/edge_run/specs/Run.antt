-- A run of the top call: the walk through a plan, and the delivery of its answer. From it follows what each end says.
use Rattle.std.specs.Prelude.{◌≡◌, ℕ, List, ◌++◌, Option, Some, option_map, Result, ◌⊎◌, Contains}
use Rattle.ev_io.specs.Count.{Rose}
use Rattle.ev_io.specs.Shelf.{Call, ShelfView}
use Rattle.ev_io.specs.Sink.{SinkView, PutTakes, PutFails}
use Rattle.ev_value.specs.declared.item.Fault.{Fault}
use Rattle.edge_run.specs.Deliver.{Delivers}
use Rattle.edge_run.specs.Ends.{ComesTo, Serves}
use Rattle.edge_run.specs.Outcome.{line_of}
use Rattle.edge_run.specs.Plan.{Plan, Goes, Along, MayRefuse, MayRead, Comes, Verdict, Answers, Refuses, Faults}
use Rattle.edge_run.specs.Refusal.{Refusal, Usage, TooLong, Schema, Data, Query, Args}
use Rattle.edge_run.specs.declared.outcome.Chan.TheVariants as chan
use Rattle.edge_run.specs.declared.outcome.Doc.{Doc}
use Rattle.edge_run.specs.declared.outcome.Outcome.{Outcome}
use Rattle.edge_run.specs.declared.outcome.Outcome.TheVariants as outcome

-- the plan was walked over the shelf, and what it answered was delivered
pub record Runs (plan : Plan (List ℕ)) (shelf shelf' : ShelfView) (out out' err err' : SinkView) (result : Outcome) : Type 0 where
  pub answer : Result (List ℕ) Outcome
  pub went : Goes plan shelf answer shelf'
  pub delivered : Delivers answer out out' err err' result

-- over what the names hold, where the shelf tells it
abbrev pub Over : ShelfView → ((List ℕ → Option (List ℕ)) → Type 0) → Type 0
Over shelf claim = (files : List ℕ → Option (List ℕ)) → shelf.held ≡ Some files → claim files

module _ (plan : Plan (List ℕ)) (shelf shelf' : ShelfView) (out out' err err' : SinkView) where
  -- a rule refuses what the names hold
  abbrev pub IsRefusalDue : Refusal → Type 0
  IsRefusalDue x = MayRefuse plan x × Over shelf (λ files. Comes files plan (Refuses x))

  -- an end that a line tells is due: by the rule that fails, by a fault among the items, or by the shelf's fault at a document that is read
  abbrev pub IsDue : Outcome → Type 0
  IsDue outcome.Done = ⊥
  IsDue (outcome.Usage u) = IsRefusalDue (Usage u)
  IsDue (outcome.ReadFault d) = MayRead plan d × Rose shelf.faults shelf'.faults
  IsDue (outcome.TooLong d) = IsRefusalDue (TooLong d)
  IsDue (outcome.WriteFault c) = ⊥
  IsDue (outcome.SchemaRefused r) = IsRefusalDue (Schema r)
  IsDue (outcome.DataRefused b) = IsRefusalDue (Data b)
  IsDue (outcome.ArgsRefused b) = IsRefusalDue (Args b)
  IsDue (outcome.QueryRefused r) = IsRefusalDue (Query r)
  IsDue (outcome.RunFault f) = Over shelf (λ files. (fs : List Fault) × Comes files plan (Faults fs) × Contains fs f)
  IsDue outcome.Memory = ⊥

  -- this text is the answer that is due
  abbrev pub IsAnswerDue : List ℕ → Type 0
  IsAnswerDue text = Over shelf (λ files. Comes files plan (Answers text))

  -- the end's line was put to `err`, and `out` is as it was
  abbrev pub IsTold : Outcome → Type 0
  IsTold o = (out' ≡ out) × PutTakes err (line_of o) err'

  -- What an end says. Done: the text that is due was put to `out` and nothing to `err`. A write fault of `out`: the same, but the
  -- put failed after a first part. A write fault of `err`: the line of an end that was due was put there and failed so. Want of
  -- memory: its line was put, or failed so. Any other end was due, and its line was put to `err`.
  abbrev pub IsCaused : Outcome → Type 0
  IsCaused outcome.Done = (err' ≡ err) × (text : List ℕ) × IsAnswerDue text × PutTakes out text out'
  IsCaused (outcome.WriteFault chan.Out) = (err' ≡ err) × (text : List ℕ) × IsAnswerDue text × PutFails out text out'
  IsCaused (outcome.WriteFault chan.Err) = (out' ≡ out) × (due : Outcome) × IsDue due × PutFails err (line_of due) err'
  IsCaused outcome.Memory = (out' ≡ out) × (PutTakes err (line_of outcome.Memory) err' ⊎ PutFails err (line_of outcome.Memory) err')
  IsCaused (outcome.Usage u) = IsDue (outcome.Usage u) × IsTold (outcome.Usage u)
  IsCaused (outcome.ReadFault d) = IsDue (outcome.ReadFault d) × IsTold (outcome.ReadFault d)
  IsCaused (outcome.TooLong d) = IsDue (outcome.TooLong d) × IsTold (outcome.TooLong d)
  IsCaused (outcome.SchemaRefused r) = IsDue (outcome.SchemaRefused r) × IsTold (outcome.SchemaRefused r)
  IsCaused (outcome.DataRefused b) = IsDue (outcome.DataRefused b) × IsTold (outcome.DataRefused b)
  IsCaused (outcome.ArgsRefused b) = IsDue (outcome.ArgsRefused b) × IsTold (outcome.ArgsRefused b)
  IsCaused (outcome.QueryRefused r) = IsDue (outcome.QueryRefused r) × IsTold (outcome.QueryRefused r)
  IsCaused (outcome.RunFault f) = IsDue (outcome.RunFault f) × IsTold (outcome.RunFault f)

  -- What is due is answered, unless memory ran out, or a read failed and this is told.
  abbrev pub IsComplete : Outcome → Type 0
  IsComplete result = Over shelf (λ files. (result ≡ outcome.Memory)
      ⊎ ((Rose shelf.faults shelf'.faults × (d : Doc) × MayRead plan d × ComesTo out out' err err' result (outcome.ReadFault d)) ⊎ ((v : Verdict (List ℕ)) × Comes files plan v × Serves out out' err err' result v)))

  -- The calls of the shelf are those of the plan.
  pub record IsAlong (result : Outcome) : Type 0 where
    pub answer : Result (List ℕ) Outcome
    pub made : List Call
    pub along : Along plan answer made
    pub calls : shelf'.calls ≡ option_map (λ before. before ++ made) shelf.calls
    pub delivered : Delivers answer out out' err err' result
