use Rattle.std.proofs.Common.{get_or, sym, ◌∙◌}
use Rattle.db_values.proofs.RepeatLaws.{seen_more, passed, not_seen}
use Rattle.db_values.proofs.links.first_repeated.Goals as goal

pub loop-id-preserved : goal.loop-id-preserved
loop-id-preserved c =
    let ids = c.args.ids.now in
    let l = c.loop-id in
    let lt = c.loop-id-test.true in (
      seen_more ids l.id-index 0 lt l.seen c.insert.new.self l.invariant.0 c.in-Ok-true.ensures.updates.0,
      passed ids l.id-index 0 lt _ (sym (l.invariant.0 (get_or ids l.id-index 0)) ∙ not_seen _ (sym c.in-Ok-true.ensures.added ∙ c.in-Ok-true.field-0-test)) l.invariant.1,
    )
