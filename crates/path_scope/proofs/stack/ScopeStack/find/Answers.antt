use Rattle.std.proofs.Common.{◌∙◌}
use Rattle.path_scope.proofs.Longest.{ended}
use Rattle.path_scope.proofs.stack.ScopeStack.find.Goals as goal

pub returns : goal.returns
returns c =
    ended c.args.path.now c.deref-scope-items.result.now c.args.self.now c.loop-scope.scope-index c.loop-scope.best c.loop-scope-test.false
    (c.deref-scope-items.ensures.value ∙ c.self.view_is) c.loop-scope.invariant
