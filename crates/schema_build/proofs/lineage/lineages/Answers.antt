use Rattle.schema_build.proofs.SearchLaws.{lines_more}
use Rattle.schema_build.proofs.lineage.lineages.Goals as goal

pub loop-number-preserved : goal.loop-number-preserved
loop-number-preserved c =
    let pushed = c.in_ok-push.ensures {u = tt} in
    lines_more c.args.bases.now c.loop-number.lines c.push.new.self c.in_ok-lineage.field-0 c.loop-number.number c.loop-number.invariant.0 c.loop-number.invariant.1 c.in_ok-lineage.ensures pushed.ok
