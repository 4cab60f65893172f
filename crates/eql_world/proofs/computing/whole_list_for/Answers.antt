use Rattle.db_store.specs.Objects.{as_value}
use Rattle.eql_world.proofs.ColumnLaws.{whole_list}
use Rattle.eql_world.proofs.computing.whole_list_for.Goals as goal

pub returns : goal.returns
returns c = whole_list c.args.world.now.schema.now c.args.world.now.objects.now c.args.world.now.args.now c.args.world.now.columns.now c.args.expr.now (as_value c.args.object.now) c.in_ok-items.items c.requires c.in_ok-items.ensures
