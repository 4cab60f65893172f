-- What must come of what is due.
use Rattle.std.specs.Prelude.{◌≡◌, ℕ, List, ◌⊎◌, Contains}
use Rattle.ev_io.specs.Sink.{SinkView, PutTakes, PutFails}
use Rattle.ev_value.specs.declared.item.Fault.{Fault}
use Rattle.edge_run.specs.Outcome.{line_of}
use Rattle.edge_run.specs.Plan.{Verdict, Answers, Refuses, Faults, Missing}
use Rattle.edge_run.specs.Refusal.{told}
use Rattle.edge_run.specs.declared.outcome.Chan.TheVariants as chan
use Rattle.edge_run.specs.declared.outcome.Outcome.{Outcome}
use Rattle.edge_run.specs.declared.outcome.Outcome.TheVariants as outcome

module _ (out out' err err' : SinkView) where
  -- the end is this one, or the put of its line failed
  abbrev pub ComesTo : Outcome → Outcome → Type 0
  ComesTo result o =
      ((result ≡ o) × (out' ≡ out) × PutTakes err (line_of o) err')
      ⊎ ((result ≡ outcome.WriteFault chan.Err) × (out' ≡ out) × PutFails err (line_of o) err')

  -- the text was put to `out`, or the put of it failed
  abbrev pub Writes : Outcome → List ℕ → Type 0
  Writes result text =
      ((result ≡ outcome.Done) × (err' ≡ err) × PutTakes out text out') ⊎ ((result ≡ outcome.WriteFault chan.Out) × (err' ≡ err) × PutFails out text out')

  -- what comes of a verdict; a document that is missing makes its read fail
  abbrev pub Serves : Outcome → Verdict (List ℕ) → Type 0
  Serves result (Answers text) = Writes result text
  Serves result (Refuses r) = ComesTo result (told r)
  Serves result (Faults fs) = (f : Fault) × Contains fs f × ComesTo result (outcome.RunFault f)
  Serves result (Missing d) = ⊥
