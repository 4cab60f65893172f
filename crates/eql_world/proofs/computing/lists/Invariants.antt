use Rattle.std.proofs.Common.{◌≡◌, ◌++◌, drop}
use Rattle.eql_world.specs.StoreWorld.{by_columns, world_where}
use Rattle.eql_world.specs.Worked.{lists_for}
use Rattle.eql_world.proofs.computing.lists.Given as goal

abbrev pub invariant-loop-object : goal.invariant-loop-object
invariant-loop-object l = l.lists ++ lists_for (world_where l.world.schema.now l.world.objects.now l.world.args.now (by_columns l.world.objects.now l.world.columns.now)) l.expr (drop l.object-index l.world.objects.now) ≡ lists_for (world_where l.world.schema.now l.world.objects.now l.world.args.now (by_columns l.world.objects.now l.world.columns.now)) l.expr l.world.objects.now
