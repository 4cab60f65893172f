use Rattle.std.specs.HashMap as hash
use Rattle.core_ir.specs.Path.{path_eq}
use Rattle.path_scope.proofs.Seeing.{put}
use Rattle.path_scope.proofs.branches.Branches.see_at.Goals as goal

pub returns : goal.returns
returns c =
    let count = c.args.count in
    λ p. put c.args.kind c.args.path.now p count (hash.get path_eq c.insert.new.self) (hash.get path_eq c.args.self.now.nodes) c.new-key.result _ _
    (c.in_ok-insert.ensures.updates.0 p) c.with_path_at-known.ensures c.new-key.ensures c.way_behind-more.ensures
