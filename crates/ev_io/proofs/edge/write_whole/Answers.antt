use Rattle.std.proofs.Common.{ℕ, arith}
use Rattle.std.proofs.lemmas.List.{length-take, length-drop}
use Rattle.ev_io.proofs.StreamLaws.{appends_more}
use Rattle.ev_io.proofs.edge.write_whole.Goals as goal

pub loop-done-preserved : goal.loop-done-preserved
loop-done-preserved g c = (
  omega (arith, c.in-Ok.ensures.bound, length-take {A = ℕ}, length-drop {A = ℕ}, c.loop-done.invariant.0),
  appends_more _ _ _ _ _ _ c.loop-done.invariant.1 c.in-Ok.ensures.bytes,
)
