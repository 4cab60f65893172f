-- The set has the paths so far.
use Rattle.std.proofs.Common.{take}
use Rattle.path_scope.specs.Around.{HasPaths}
use Rattle.path_scope.proofs.around.set_of.Given as goal

abbrev pub invariant-loop-path : goal.invariant-loop-path
invariant-loop-path l = HasPaths l.paths (take l.path-index l.bound)
