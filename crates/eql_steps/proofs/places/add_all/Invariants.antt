use Rattle.std.proofs.Common.{◌≡◌, ◌++◌, drop}
use Rattle.eql_steps.proofs.places.add_all.Given as goal

abbrev pub invariant-loop-place : goal.invariant-loop-place
invariant-loop-place l = l.out.items ++ drop l.place-index l.places ≡ l.fn.out.items ++ l.places
