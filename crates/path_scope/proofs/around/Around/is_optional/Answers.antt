use Rattle.std.proofs.Common.{◌∙◌, ap}
use Rattle.path_scope.specs.Factored.{is_optional}
use Rattle.path_scope.specs.Around.{Setting}
use Rattle.path_scope.specs.declared.branches.Node.{Node}
use Rattle.path_scope.proofs.Branching.{node_optional}
use Rattle.path_scope.proofs.around.Around.is_optional.Goals as goal

pub returns : goal.returns
returns c =
    let p = c.args.prefix.now in
    let at = c.self.inside in
    c.is_optional_at.ensures
    ∙ ap (λ (n : Node). n.optional) (c.self.invariant.0 p)
    ∙ node_optional p at.direct.now at.all.now
    ∙ ap (λ (s : Setting). is_optional s.direct p) c.self.view_is
