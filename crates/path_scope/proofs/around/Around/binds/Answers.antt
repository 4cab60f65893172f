use Rattle.std.proofs.Common.{◌≡◌, ◌∙◌, ◌&&◌, not, ap}
use Rattle.path_scope.specs.Branches.{part}
use Rattle.path_scope.specs.Factored.{joins, is_bound}
use Rattle.path_scope.specs.Around.{Setting}
use Rattle.path_scope.specs.declared.branches.Node.{Node}
use Rattle.path_scope.proofs.Branching.{node_joins}
use Rattle.path_scope.proofs.Listing.{binds_then, binds_else}
use Rattle.path_scope.proofs.around.Around.binds.Goals as goal

pub returns-then-part_at : goal.returns-then-part_at
returns-then-part_at c =
    let p = c.args.prefix.now in
    let at = c.self.inside in
    let join : c.part_at.result ≡ joins at.direct.now at.all.now p =
    c.part_at.ensures ∙ ap (λ (n : Node). part n.direct n.any) (c.self.invariant.0 p) ∙ node_joins p at.direct.now at.all.now in
    ap not (c.contains.ensures ∙ c.self.invariant.1 p)
    ∙ binds_then c.part_at.result (joins at.direct.now at.all.now p) (is_bound at.bound.now p) join c.if-part_at.true
    ∙ ap (λ (s : Setting). joins s.direct s.all p && not (is_bound s.bound p)) c.self.view_is

pub returns-else-part_at : goal.returns-else-part_at
returns-else-part_at c =
    let p = c.args.prefix.now in
    let at = c.self.inside in
    let join : c.part_at.result ≡ joins at.direct.now at.all.now p =
    c.part_at.ensures ∙ ap (λ (n : Node). part n.direct n.any) (c.self.invariant.0 p) ∙ node_joins p at.direct.now at.all.now in
    binds_else c.part_at.result (joins at.direct.now at.all.now p) (is_bound at.bound.now p) join c.if-part_at.false
    ∙ ap (λ (s : Setting). joins s.direct s.all p && not (is_bound s.bound p)) c.self.view_is
