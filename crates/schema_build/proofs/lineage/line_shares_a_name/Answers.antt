use Rattle.std.proofs.Common.{ap, map, ◌∙◌, ◌++◌}
use Rattle.core_ir.specs.declared.path.TypeId.{TypeId}
use Rattle.schema_build.specs.Lineage.{at}
use Rattle.schema_build.proofs.RepeatLaws.{shares_from, shares_begins}
use Rattle.schema_build.proofs.lineage.line_shares_a_name.Goals as goal

pub loop-ty-init : goal.loop-ty-init
loop-ty-init c =
    let groups = map (λ (t : TypeId). at c.args.names.now t.0) c.args.line.now in
    ap (λ seen. shares_from seen groups) (c.in_ok-add_all.ensures {u = tt} ∙ ap (λ seen. seen ++ c.args.own.now) c.new-seen.ensures) ∙ shares_begins c.args.own.now groups
