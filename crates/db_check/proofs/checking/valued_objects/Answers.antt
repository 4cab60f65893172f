use Rattle.std.proofs.Common.{length, sym, ap, ◌∙◌, arith}
use Rattle.db_check.specs.Check.{stored, valued_with, values_from}
use Rattle.db_check.proofs.HeadTurns.{no_more}
use Rattle.db_check.proofs.Ruled.{none_ruled}
use Rattle.db_check.proofs.checking.valued_objects.Goals as goal

pub stored_objects-requires-clause-objects : goal.stored_objects-requires-clause-objects
stored_objects-requires-clause-objects c =
    let e = ap length c.in-Ok-objects_of.ensures in
    let h = no_more c.args.schema.now c.args.orders.now c.args.heads.now c.args.drafts.now in
    omega arith

pub stored_objects-requires-clause-written : goal.stored_objects-requires-clause-written
stored_objects-requires-clause-written c =
    let s = c.args.schema.now in
    let orders = c.args.orders.now in
    let heads = c.args.heads.now in
    let ds = c.args.drafts.now in (
      ds,
      c.requires.written
          ∙ ap (valued_with s orders heads ds) (none_ruled (values_from s orders heads 0 heads ds) c.in-Ok.ensures)
          ∙ ap (stored s orders) (sym c.in-Ok-objects_of.ensures),
    )
