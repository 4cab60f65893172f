use Rattle.db_ids.proofs.HeadLaws.{is_new}
use Rattle.db_ids.proofs.identity.check_heads.Goals as goal

pub add-requires-clause-is_new : goal.add-requires-clause-is_new
add-requires-clause-is_new c = is_new c.args.types.now c.loop-draft.heads c.draft-item.result c.in-Ok.head c.in-Ok.ensures
