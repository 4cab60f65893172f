-- A shelf of documents, as far as it tells what it is: what each name holds, the calls so far, and a count of faults.
use Rattle.std.specs.Prelude.{ℕ, ◌≡◌, ◌≤◌, List, [], ◌∷◌, ◌++◌, length, take, Option, Some, option_map, Bool, true, false}
use Rattle.ev_io.specs.Count.{Rose}
use Rattle.ev_io.specs.declared.shelf.ShelfError.{ShelfError}
use Rattle.ev_io.specs.declared.shelf.ShelfError.TheVariants as shelf_error

-- a read that was answered: under which name, and whether by a failure
pub record Call : Type 0 where
  pub name : List ℕ
  pub failed : Bool

-- what contracts see of a shelf; a shelf over real files tells neither its bytes nor its calls
pub record ShelfView : Type 0 where
  pub held : Option (List ℕ → Option (List ℕ))
  pub calls : Option (List Call)
  pub faults : ℕ

abbrev pub call_of : List ℕ → Bool → Call
call_of name failed = record { name = name; failed = failed }

-- the calls with one more at the end, where they are told
abbrev pub called : List ℕ → Bool → Option (List Call) → Option (List Call)
called name failed calls = option_map (λ made. made ++ call_of name failed ∷ []) calls

-- no fault was counted: the count never falls, and where the calls are told it rises with a failed call alone
pub record Calm (old new : ShelfView) : Type 0 where
  pub keeps : old.faults ≤ new.faults
  pub still : (made : List Call) → old.calls ≡ Some made → new.faults ≡ old.faults

-- the read gave the first `most` bytes under the name, or all where there are fewer
pub record ReadGives (old : ShelfView) (name : List ℕ) (most : ℕ) (bytes : List ℕ) (new : ShelfView) : Type 0 where
  pub found : (files : List ℕ → Option (List ℕ)) → old.held ≡ Some files → option_map (take most) (files name) ≡ Some bytes
  pub within : length bytes ≤ most
  pub holds : new.held ≡ old.held
  pub call : new.calls ≡ called name false old.calls
  pub calm : Calm old new

-- the read failed, and the count of faults rose
pub record ReadFails (old : ShelfView) (name : List ℕ) (new : ShelfView) : Type 0 where
  pub rose : Rose old.faults new.faults
  pub holds : new.held ≡ old.held
  pub call : new.calls ≡ called name true old.calls

-- nothing was read and no call was noted
pub record Quiet (old new : ShelfView) : Type 0 where
  pub holds : new.held ≡ old.held
  pub call : new.calls ≡ old.calls
  pub calm : Calm old new

-- what an error of a read says: a failure was counted, or memory ran out and nothing happened
abbrev pub ReadEnds : ShelfError → ShelfView → List ℕ → ShelfView → Type 0
ReadEnds shelf_error.Failed old name new = ReadFails old name new
ReadEnds shelf_error.Memory old name new = Quiet old new
