use Rattle.std.proofs.Common.{◌≡◌, ◌∷◌, take}
use Rattle.sql_exec.proofs.turn.under.Given as goal

abbrev pub invariant-loop-outer : goal.invariant-loop-outer
invariant-loop-outer l = l.frames ≡ record { alias = l.fn.alias; columns = l.fn.columns; row = l.fn.row } ∷ take l.outer-index l.scope
