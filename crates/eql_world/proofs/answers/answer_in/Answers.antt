use Rattle.eql_world.proofs.ColumnLaws.{whole_items}
use Rattle.eql_world.proofs.answers.answer_in.Goals as goal

pub returns : goal.returns
returns c = whole_items c.args.world.now.schema.now c.args.world.now.objects.now c.args.world.now.args.now c.args.world.now.columns.now c.args.query.now.body c.in_ok-items.items c.requires c.in_ok-items.ensures
