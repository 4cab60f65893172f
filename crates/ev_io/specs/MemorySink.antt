-- A sink in memory: its room, the puts that are to fail, what it has taken, and what the next put does.
use Rattle.std.specs.Prelude.{ℕ, ◌≡◌, ◌≤◌, ◌-◌, ◌||◌, min, List, [], ◌++◌, length, take, find, All, Option, Some, None, Bool, if◌then◌else◌, is_some, nat_eq, nat_lt}
use Rattle.ev_io.specs.Count.{counted, most_counted}
use Rattle.ev_io.specs.Sink.{SinkView}
use Rattle.ev_io.specs.declared.memory_sink.FailingPut.{FailingPut}

-- what contracts see of a sink in memory
pub record SinkState : Type 0 where
  pub room : ℕ
  pub failing : List FailingPut
  pub taken : List ℕ
  pub puts : ℕ
  pub handed : ℕ
  pub faults : ℕ

-- a sink with this room before its first put
abbrev pub fresh_sink : ℕ → List FailingPut → SinkState
fresh_sink room failing = record { room = room; failing = failing; taken = []; puts = 0; handed = 0; faults = 0 }

-- the first entry that names the put at this place
abbrev pub first_entry : List FailingPut → ℕ → Option FailingPut
first_entry failing place = find (λ failure. nat_eq failure.call place) failing

-- the entry for the next put; none is for the place where the count of puts stops
abbrev pub next_failure : SinkState → Option FailingPut
next_failure sink = if nat_eq sink.puts most_counted then None else first_entry sink.failing sink.puts

-- how many bytes of a piece of this size the next put may take: those that its entry says, or all
abbrev pub part_allowed : Option FailingPut → ℕ → ℕ
part_allowed (Some failure) size = min size failure.takes
part_allowed None size = size

-- how many bytes of a piece of this size the next put takes
abbrev pub part_taken : SinkState → ℕ → ℕ
part_taken sink size = min (part_allowed (next_failure sink) size) (sink.room - length sink.taken)

-- whether the next put fails: where it is listed, or where the piece is past the room
abbrev pub does_fail : SinkState → ℕ → Bool
does_fail sink size = is_some (next_failure sink) || nat_lt (sink.room - length sink.taken) size

-- the sink after a put of the piece
abbrev pub after_put : SinkState → List ℕ → SinkState
after_put sink piece = record {
  room = sink.room;
  failing = sink.failing;
  taken = sink.taken ++ take (part_taken sink (length piece)) piece;
  puts = counted 1 sink.puts;
  handed = counted (length piece) sink.handed;
  faults = if does_fail sink (length piece) then counted 1 sink.faults else sink.faults;
}

-- no put so far was listed, and all that was handed in is within the room
pub record IsWithin (sink : SinkState) : Type 0 where
  pub unlisted : All (λ failure. sink.puts ≤ failure.call) sink.failing
  pub fits : sink.handed ≤ sink.room

-- no fault was counted as long as no put was listed and all that was handed in is within the room
abbrev pub IsCalm : SinkState → Type 0
IsCalm sink = IsWithin sink → sink.faults ≡ 0

-- what every sink keeps: it is within its room, and as long as nothing failed it has taken all that was handed in
pub record IsKept (sink : SinkState) : Type 0 where
  pub bound : length sink.taken ≤ sink.room
  pub calm : IsCalm sink
  pub whole : IsWithin sink → length sink.taken ≡ sink.handed

-- what the sink tells: what it has taken, its puts, the bytes handed in, and the puts that failed
abbrev pub sink_seen : SinkState → SinkView
sink_seen sink = record {
  taken = Some sink.taken;
  puts = Some sink.puts;
  handed = Some sink.handed;
  faults = sink.faults;
}
