-- A sink of bytes, as far as it tells what it is: what it has taken, its puts and the bytes handed to them, and a count of faults.
use Rattle.std.specs.Prelude.{ℕ, ◌≡◌, ◌≤◌, List, ◌++◌, length, take, Option, option_map}
use Rattle.ev_io.specs.Count.{Rose, counted}

-- what contracts see of a sink; a sink over a real stream tells its count of faults alone
pub record SinkView : Type 0 where
  pub taken : Option (List ℕ)
  pub puts : Option ℕ
  pub handed : Option ℕ
  pub faults : ℕ

-- the put took the whole piece
pub record PutTakes (old : SinkView) (piece : List ℕ) (new : SinkView) : Type 0 where
  pub takes : new.taken ≡ option_map (λ so_far. so_far ++ piece) old.taken
  pub put : new.puts ≡ option_map (counted 1) old.puts
  pub hands : new.handed ≡ option_map (counted (length piece)) old.handed
  pub keeps : old.faults ≤ new.faults

-- the put failed after some first part of the piece, and the count of faults rose
pub record PutFails (old : SinkView) (piece : List ℕ) (new : SinkView) : Type 0 where
  pub part : ℕ
  pub takes : new.taken ≡ option_map (λ so_far. so_far ++ take part piece) old.taken
  pub put : new.puts ≡ option_map (counted 1) old.puts
  pub hands : new.handed ≡ option_map (counted (length piece)) old.handed
  pub rose : Rose old.faults new.faults
