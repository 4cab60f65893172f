-- The headline, in its own words: what a run says of the documents that its words name.
use Rattle.std.specs.Prelude.{◌≡◌, ℕ, List, ◌⊎◌, Contains}
use Rattle.ev_io.specs.Count.{Rose}
use Rattle.ev_io.specs.Shelf.{ShelfView}
use Rattle.ev_io.specs.Sink.{SinkView, PutTakes, PutFails}
use Rattle.ev_value.specs.declared.item.Fault.{Fault}
use Rattle.edge_run.specs.Due.{Due}
use Rattle.edge_run.specs.Ends.{ComesTo, Serves}
use Rattle.edge_run.specs.Outcome.{line_of}
use Rattle.edge_run.specs.Plan.{Verdict, Answers, Refuses, Faults}
use Rattle.edge_run.specs.Refusal.{Refusal, TooLong, Schema, Data, Query, Args}
use Rattle.edge_run.specs.Run.{Over}
use Rattle.edge_run.specs.Task.{Task, Asks, FailsUsage, Reads, Tells}
use Rattle.edge_run.specs.declared.outcome.Chan.TheVariants as chan
use Rattle.edge_run.specs.declared.outcome.Doc.{Doc}
use Rattle.edge_run.specs.declared.outcome.UsageRule.{UsageRule}
use Rattle.edge_run.specs.declared.outcome.Outcome.{Outcome}
use Rattle.edge_run.specs.declared.outcome.Outcome.TheVariants as outcome

module _ (words : List (List ℕ)) (shelf shelf' : ShelfView) where
  -- the words ask for this task, and where the shelf tells its bytes, this is due over them
  abbrev pub IsDueFor : Task → Verdict (List ℕ) → Type 0
  IsDueFor t v = Asks words t × Over shelf (λ files. Due t files v)

  -- the words ask for a task, of which this text is the answer
  abbrev pub IsAnswer : List ℕ → Type 0
  IsAnswer text = (t : Task) × IsDueFor t (Answers text)

  -- the words ask for a task, and this rule on a document that it reads refuses it
  abbrev pub IsRefusal : Refusal → Type 0
  IsRefusal r = (t : Task) × Tells t r × IsDueFor t (Refuses r)

  -- the cause of each end that a line tells
  abbrev pub IsCauseOf : Outcome → Type 0
  IsCauseOf outcome.Done = ⊥
  IsCauseOf (outcome.Usage u) = FailsUsage u words
  IsCauseOf (outcome.ReadFault d) = (t : Task) × Asks words t × Reads t d × Rose shelf.faults shelf'.faults
  IsCauseOf (outcome.WriteFault c) = ⊥
  IsCauseOf (outcome.TooLong d) = IsRefusal (TooLong d)
  IsCauseOf (outcome.SchemaRefused r) = IsRefusal (Schema r)
  IsCauseOf (outcome.DataRefused b) = IsRefusal (Data b)
  IsCauseOf (outcome.ArgsRefused b) = IsRefusal (Args b)
  IsCauseOf (outcome.QueryRefused r) = IsRefusal (Query r)
  IsCauseOf (outcome.RunFault f) = (t : Task) × Asks words t × Over shelf (λ files. (fs : List Fault) × Due t files (Faults fs) × Contains fs f)
  IsCauseOf outcome.Memory = ⊥

module _ (words : List (List ℕ)) (shelf shelf' : ShelfView) (out out' err err' : SinkView) where
  -- the end has its cause, `out` is as it was, and `err` took exactly the line
  abbrev pub IsLine : Outcome → Type 0
  IsLine o = IsCauseOf words shelf shelf' o × (out' ≡ out) × PutTakes err (line_of o) err'

  -- What each end says. Done: `out` took exactly the text that is due, and `err` is as it was. A usage line, a read fault, a refusal
  -- and a run fault come only with their cause: `out` is as it was, and `err` took exactly their line. A write fault comes only
  -- where such a put failed, after a first part of the text or of the line. Want of memory is free.
  abbrev pub IsHeadline : Outcome → Type 0
  IsHeadline outcome.Done = (err' ≡ err) × (text : List ℕ) × IsAnswer words shelf shelf' text × PutTakes out text out'
  IsHeadline (outcome.WriteFault chan.Out) = (err' ≡ err) × (text : List ℕ) × IsAnswer words shelf shelf' text × PutFails out text out'
  IsHeadline (outcome.WriteFault chan.Err) = (out' ≡ out) × (due : Outcome) × IsCauseOf words shelf shelf' due × PutFails err (line_of due) err'
  IsHeadline outcome.Memory = (out' ≡ out) × (PutTakes err (line_of outcome.Memory) err' ⊎ PutFails err (line_of outcome.Memory) err')
  IsHeadline (outcome.Usage u) = IsLine (outcome.Usage u)
  IsHeadline (outcome.ReadFault d) = IsLine (outcome.ReadFault d)
  IsHeadline (outcome.TooLong d) = IsLine (outcome.TooLong d)
  IsHeadline (outcome.SchemaRefused r) = IsLine (outcome.SchemaRefused r)
  IsHeadline (outcome.DataRefused b) = IsLine (outcome.DataRefused b)
  IsHeadline (outcome.ArgsRefused b) = IsLine (outcome.ArgsRefused b)
  IsHeadline (outcome.QueryRefused r) = IsLine (outcome.QueryRefused r)
  IsHeadline (outcome.RunFault f) = IsLine (outcome.RunFault f)

  -- a document of the task could not be read, and this is told
  abbrev pub FailsToRead : Outcome → Task → Type 0
  FailsToRead result t = Rose shelf.faults shelf'.faults × (d : Doc) × Reads t d × ComesTo out out' err err' result (outcome.ReadFault d)

  -- Each cause has its end, unless memory ran out: a rule of the command line that fails is told, and of a task what is due comes, or a
  -- document could not be read.
  pub record IsExact (result : Outcome) : Type 0 where
    pub usage : (u : UsageRule) → FailsUsage u words → (result ≡ outcome.Memory) ⊎ ComesTo out out' err err' result (outcome.Usage u)
    pub task : (t : Task) → Asks words t → Over shelf (λ files. (result ≡ outcome.Memory)
        ⊎ (FailsToRead result t ⊎ ((v : Verdict (List ℕ)) × Due t files v × Serves out out' err err' result v)))
