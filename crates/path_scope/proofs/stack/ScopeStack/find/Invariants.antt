-- The best so far, and what is attached to the scopes that are left.
use Rattle.std.proofs.Common.{◌≡◌, drop, None}
use Rattle.std.specs.List.{fold}
use Rattle.path_scope.specs.Stack.{better, attached_in}
use Rattle.path_scope.proofs.stack.ScopeStack.find.Given as goal

abbrev pub invariant-loop-scope : goal.invariant-loop-scope
invariant-loop-scope l = fold (better l.path) l.best (attached_in (drop l.scope-index l.scope-items)) ≡ fold (better l.path) None (attached_in l.scope-items)
