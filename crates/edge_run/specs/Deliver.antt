-- How an answer or another end is put to the sinks.
use Rattle.std.specs.Prelude.{◌≡◌, ℕ, List, Result, Ok, Err, ◌⊎◌}
use Rattle.ev_io.specs.Sink.{SinkView, PutTakes, PutFails}
use Rattle.edge_run.specs.Outcome.{line_of}
use Rattle.edge_run.specs.declared.outcome.Chan.TheVariants as chan
use Rattle.edge_run.specs.declared.outcome.Outcome.{Outcome}
use Rattle.edge_run.specs.declared.outcome.Outcome.TheVariants as outcome

-- what stands in the place of an end whose line could not be put: want of memory alone stays
abbrev pub unwritten_of : Outcome → Outcome
unwritten_of outcome.Done = outcome.WriteFault chan.Err
unwritten_of (outcome.Usage u) = outcome.WriteFault chan.Err
unwritten_of (outcome.ReadFault d) = outcome.WriteFault chan.Err
unwritten_of (outcome.TooLong d) = outcome.WriteFault chan.Err
unwritten_of (outcome.WriteFault c) = outcome.WriteFault chan.Err
unwritten_of (outcome.SchemaRefused r) = outcome.WriteFault chan.Err
unwritten_of (outcome.DataRefused b) = outcome.WriteFault chan.Err
unwritten_of (outcome.ArgsRefused b) = outcome.WriteFault chan.Err
unwritten_of (outcome.QueryRefused r) = outcome.WriteFault chan.Err
unwritten_of (outcome.RunFault f) = outcome.WriteFault chan.Err
unwritten_of outcome.Memory = outcome.Memory

-- The line of the end was put to `err`, or the put of it failed.
abbrev pub PutsLine : Outcome → SinkView → SinkView → Outcome → Type 0
PutsLine due err err' result = ((result ≡ due) × PutTakes err (line_of due) err') ⊎ ((result ≡ unwritten_of due) × PutFails err (line_of due) err')

-- One put in all. An answer goes to `out`, the line of another end to `err`, and the other sink is as it was. Where there is no
-- memory for a line, this is told.
abbrev pub Delivers : Result (List ℕ) Outcome → SinkView → SinkView → SinkView → SinkView → Outcome → Type 0
Delivers (Ok text) out out' err err' result =
    (err' ≡ err) × (((result ≡ outcome.Done) × PutTakes out text out')
    ⊎ ((result ≡ outcome.WriteFault chan.Out) × PutFails out text out'))
Delivers (Err due) out out' err err' result = (out' ≡ out) × (PutsLine due err err' result ⊎ PutsLine outcome.Memory err err' result)
