use Rattle.std.proofs.Common.{◌∙◌}
use Rattle.path_scope.proofs.Bound.{shorter}
use Rattle.path_scope.proofs.scopes.add_prefix_paths.Goals as goal

pub loop-last-preserved : goal.loop-last-preserved
loop-last-preserved c =
    shorter c.loop-last.out c.push.new.self c.loop-last.rest.now c.in-Some.before.now c.in-Some.last.now _ c.in-Some.ensures.cases.0 c.in_ok-copied.ensures c.in_ok-push.ensures.ok
    ∙ c.loop-last.invariant
