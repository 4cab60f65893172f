use Rattle.std.proofs.Common.{◌≡◌, take}
use Rattle.sql_exec.proofs.turn.shared_scope.Given as goal

abbrev pub invariant-loop-frame : goal.invariant-loop-frame
invariant-loop-frame l = l.frames ≡ take l.frame-index l.scope
