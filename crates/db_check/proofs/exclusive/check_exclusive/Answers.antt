use Rattle.std.proofs.Common.{◌+◌, drop, sym, ◌∙◌}
use Rattle.db_check.specs.Exclusive.{exclusive}
use Rattle.db_check.specs.Holders.{held_by}
use Rattle.db_check.proofs.HeadTurns.{left_item}
use Rattle.db_check.proofs.ObjectTurns.{exclusive_turn}
use Rattle.db_check.proofs.exclusive.check_exclusive.Goals as goal

pub loop-i-preserved : goal.loop-i-preserved
loop-i-preserved c =
    let os = c.args.objects.now in
    let i = c.loop-i.i in
    exclusive_turn c.args.infos.now c.args.orders.now (held_by c.loop-i.holders) (held_by c.clash.new.holders) i c.index-objects-i.result c.pointers_at-listed.result.now
    (drop i os) (drop (i + 1) os) (exclusive c.args.infos.now c.args.orders.now os)
    (left_item os i c.index-objects-i.result c.loop-i-test.true c.index-objects-i.is)
    c.pointers_at-listed.ensures
    (sym c.in-Ok-None.field-0-is ∙ c.in-Ok-None.ensures.first)
    (c.in-Ok-None.ensures.held c.in-Ok-None.field-0-is)
    c.loop-i.invariant
