-- Laws of a sink in memory.
use Rattle.std.proofs.Common.{◌≡◌, ℕ, ◌-◌, ◌≤◌, ◌<◌, ◌^◌, min, List, [], ◌∷◌, length, take, find, All, Option, None, Some, is_some, Bool, true, false, cond, ◌||◌, nat_eq, nat_lt, refl, arith, subst, length-append, suc}
use Rattle.std.proofs.lemmas.Bool.{eqb-false}
use Rattle.std.proofs.lemmas.List.{length-take}
use Rattle.std.proofs.lemmas.Bool.Decides.{nat_tests}
use Rattle.ev_io.specs.Count.{counted, most_counted}
use Rattle.ev_io.specs.MemorySink.{SinkState, first_entry, next_failure, part_allowed, part_taken, does_fail, after_put, IsWithin, IsKept}
use Rattle.ev_io.specs.declared.memory_sink.FailingPut.{FailingPut}

not_same : (a b : ℕ) → b < a → nat_eq a b ≡ false
not_same a b h = grind (arith, nat_tests)

not_below : (a b : ℕ) → b ≤ a → nat_lt a b ≡ false
not_below a b h = grind (arith, nat_tests)

-- no entry is found for a place that each entry is past
find-past : (failing : List FailingPut) (place : ℕ) → All (λ failure. place < failure.call) failing → find (λ failure. nat_eq failure.call place) failing ≡ None
find-past [] place past = refl
find-past (f ∷ fs) place past =
    let e : nat_eq f.call place ≡ false = not_same f.call place (past 0 f (omega arith)) in
    rw e (find-past fs place (λ k d h. past (suc k) d (omega arith)))

-- where each entry is past the place of the next put, the put is not listed
unlisted : (sink : SinkState) → All (λ failure. counted 1 sink.puts ≤ failure.call) sink.failing → sink.puts ≤ most_counted → next_failure sink ≡ None
unlisted sink past bound =
    let place = sink.puts in
    let by_test : (b : Bool) → nat_eq place most_counted ≡ b → cond b None (first_entry sink.failing place) ≡ None =
    elim [
      | true ↦ λ e. refl
      | false ↦ λ e. find-past sink.failing place (λ k d h. omega (arith, past k d h, eqb-false place most_counted e))
    ] in
    by_test (nat_eq place most_counted) refl

not_failing : (listed : Option FailingPut) (left size : ℕ) → listed ≡ None → size ≤ left → (is_some listed || nat_lt left size) ≡ false
not_failing None left size e h = not_below left size h
not_failing (Some f) left size e h = cc

part_whole : (listed : Option FailingPut) (left size : ℕ) → listed ≡ None → size ≤ left → min (part_allowed listed size) left ≡ size
part_whole None left size e h = omega arith
part_whole (Some f) left size e h = cc

-- a sink that is within its bounds after a put was so before
within_before : (sink : SinkState) (piece : List ℕ) → sink.room < 2 ^ 63 → sink.puts ≤ most_counted → IsWithin (after_put sink piece) → IsWithin sink
within_before sink piece small bound within = record {
  unlisted = λ k d h. omega (arith, within.unlisted k d h);
  fits = omega (arith, within.fits);
}

-- what every sink keeps is kept by a put
after_put-kept : (sink : SinkState) (piece : List ℕ) → sink.room < 2 ^ 63 → sink.puts ≤ most_counted → IsKept sink → IsKept (after_put sink piece)
after_put-kept sink piece small bound keeps =
    let size = length piece in
    let left = sink.room - length sink.taken in
    let part = part_taken sink size in
    let before : IsWithin (after_put sink piece) → IsWithin sink = within_before sink piece small bound in
    let free : IsWithin (after_put sink piece) → next_failure sink ≡ None = λ w. unlisted sink w.unlisted bound in
    let fits : IsWithin (after_put sink piece) → size ≤ left = λ w. omega (arith, w.fits, keeps.whole (before w)) in
    record {
      bound = omega (arith, length-append sink.taken (take part piece), length-take part piece, keeps.bound);
      calm = λ w.
          let e : does_fail sink size ≡ false = not_failing (next_failure sink) left size (free w) (fits w) in
          rw e (keeps.calm (before w));
      whole = λ w.
          let e : part ≡ size = part_whole (next_failure sink) left size (free w) (fits w) in
          omega (arith, length-append sink.taken (take part piece), length-take part piece, e, keeps.whole (before w), w.fits);
    }

pub kept : (old new : SinkState) (piece : List ℕ) → after_put old piece ≡ new → old.room < 2 ^ 63 → old.puts ≤ most_counted → IsKept old → IsKept new
kept old new piece e small bound keeps = subst IsKept e (after_put-kept old piece small bound keeps)
