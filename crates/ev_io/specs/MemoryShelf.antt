-- A shelf in memory: its files, the calls that are to fail and the calls so far, and what the next call is due to give.
use Rattle.std.specs.Prelude.{ℕ, ◌≡◌, min, List, [], ◌∷◌, ◌++◌, length, take, find, count_by, map, Option, Some, None, option_map, Bool, true, if◌then◌else◌, nat_eq, bytes_eq}
use Rattle.std.specs.List.{list_any}
use Rattle.ev_io.specs.Count.{most_counted}
use Rattle.ev_io.specs.Shelf.{Call, call_of, ShelfView}
use Rattle.ev_io.specs.declared.memory_shelf.File.{File}
use Rattle.ev_io.specs.declared.memory_shelf.ReadCall.{ReadCall}
use Rattle.ev_io.specs.declared.shelf.ShelfError.{ShelfError}
use Rattle.ev_io.specs.declared.shelf.ShelfError.TheVariants as shelf_error

-- what contracts see of a shelf in memory
pub record ShelfState : Type 0 where
  pub files : List File
  pub failing : List ℕ
  pub calls : List Call

-- a shelf of these files before its first call
abbrev pub fresh_shelf : List File → List ℕ → ShelfState
fresh_shelf files failing = record { files = files; failing = failing; calls = [] }

-- the calls as contracts see them
abbrev pub calls_told : List ReadCall → List Call
calls_told calls = map (λ call. call_of call.name call.failed) calls

-- the first file with the name
abbrev pub first_named : List File → List ℕ → Option File
first_named files name = find (λ file. bytes_eq file.name name) files

-- what is held under a name: the bytes of the first file with it
abbrev pub held_under : List File → List ℕ → Option (List ℕ)
held_under files name = option_map (λ file. file.bytes) (first_named files name)

-- whether the call at this place, counted from 0, is to fail
abbrev pub is_listed : List ℕ → ℕ → Bool
is_listed failing place = list_any (λ n. nat_eq n place) failing

-- what the next call is due to give: the first bytes under the name, and nothing where it is due to fail
abbrev pub due_bytes : ShelfState → List ℕ → ℕ → Option (List ℕ)
due_bytes shelf name most =
    if is_listed shelf.failing (length shelf.calls) then None else option_map (take most) (held_under shelf.files name)

-- the shelf after one more call
abbrev pub with_call : ShelfState → List ℕ → Bool → ShelfState
with_call shelf name failed = record shelf { calls = shelf.calls ++ call_of name failed ∷ [] }

-- why a call gave no bytes: it was due to fail, and this was noted; or memory ran out, and nothing was
abbrev pub ReadStops : ShelfError → Option (List ℕ) → ShelfState → List ℕ → ShelfState → Type 0
ReadStops shelf_error.Failed due old name new = (due ≡ None) × (new ≡ with_call old name true)
ReadStops shelf_error.Memory due old name new = new ≡ old

-- how many calls failed
abbrev pub failures : List Call → ℕ
failures calls = count_by (λ call. call.failed) calls

-- what the shelf tells: its bytes, its calls, and how many of them failed
abbrev pub shelf_seen : ShelfState → ShelfView
shelf_seen shelf = record {
  held = Some (held_under shelf.files);
  calls = Some shelf.calls;
  faults = min (failures shelf.calls) most_counted;
}
