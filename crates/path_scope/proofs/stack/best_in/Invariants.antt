-- The best so far.
use Rattle.std.proofs.Common.{◌≡◌, drop}
use Rattle.std.specs.List.{fold}
use Rattle.path_scope.specs.Stack.{better}
use Rattle.path_scope.proofs.stack.best_in.Given as goal

abbrev pub invariant-loop-attached : goal.invariant-loop-attached
invariant-loop-attached l = fold (better l.path) l.best (drop l.attached-index l.scope) ≡ fold (better l.path) l.fn.start l.scope
