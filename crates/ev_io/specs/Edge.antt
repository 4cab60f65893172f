-- What the shelf over files and the sink over a stream tell, and what their steps do to bytes that a reader or a writer tells.
use Rattle.std.specs.Prelude.{ℕ, ◌≡◌, ◌≤◌, List, ◌++◌, length, take, Option, None, Result, Ok, Err}
use Rattle.std.specs.Io.KnownBytes.{Appends, Consumes, IsAtEnd}
use Rattle.ev_io.specs.Count.{counted}
use Rattle.ev_io.specs.Shelf.{ShelfView}
use Rattle.ev_io.specs.Sink.{SinkView}
use Rattle.ev_io.specs.declared.shelf.ShelfError.{ShelfError}
use Rattle.ev_io.specs.declared.shelf.ShelfError.TheVariants as shelf_error

-- what a shelf over files tells: its count of faults alone
abbrev pub untold_shelf : ℕ → ShelfView
untold_shelf faults = record { held = None; calls = None; faults = faults }

-- what a sink over a stream tells: its count of faults alone
abbrev pub untold_sink : ℕ → SinkView
untold_sink faults = record { taken = None; puts = None; handed = None; faults = faults }

-- the count of faults after a read: one more where it failed
abbrev pub count_after : Result (List ℕ) ShelfError → ℕ → ℕ
count_after (Err shelf_error.Failed) before = counted 1 before
count_after (Err shelf_error.Memory) before = before
count_after (Ok bytes) before = before

-- the writer took some first part of the piece
pub record AppendsFront (old new : Option (List ℕ)) (piece : List ℕ) : Type 0 where
  pub part : ℕ
  pub appends : Appends old new (take part piece)

-- a read took so many bytes from the reader to the end of the list, within the bound; none is the reader's end
pub record GivesBlock (old new : Option (List ℕ)) (before after : List ℕ) (most count : ℕ) : Type 0 where
  pub read : List ℕ
  pub takes : Consumes old new read
  pub adds : after ≡ before ++ read
  pub counts : length read ≡ count
  pub within : length after ≤ most
  pub end : count ≡ 0 → IsAtEnd new
