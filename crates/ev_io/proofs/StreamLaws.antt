-- Laws of writing a piece part by part.
use Rattle.std.proofs.Common.{ℕ, ◌+◌, ◌-◌, List, length, take, drop, Option}
use Rattle.std.proofs.lemmas.List.{take_rest}
use Rattle.std.proofs.Math.Seq.{take-add}
use Rattle.std.proofs.KnownBytes.{Appends-trans}
use Rattle.std.specs.Io.KnownBytes.{Appends}

-- a writer that took the front of the piece and then a front of what is left took a longer front
pub appends_more : (a b c : Option (List ℕ)) (piece : List ℕ) (done count : ℕ)
    → Appends a b (take done piece)
    → Appends b c (take count (take (length piece - done) (drop done piece)))
    → Appends a c (take (done + count) piece)
appends_more a b c piece done count first second =
    let more = rw take_rest at second in
    rw take-add (Appends-trans a b c _ _ first more)
