use Rattle.std.proofs.Common.{◌≡◌, drop, fold}
use Rattle.eql_world.specs.StoreWorld.{by_columns, knowing, computing}
use Rattle.eql_world.proofs.computing.columns.Given as goal

abbrev pub invariant-loop-computed : goal.invariant-loop-computed
invariant-loop-computed l = fold (knowing l.schema l.objects l.args) (by_columns l.objects l.columns) (drop l.computed-index l.schema.computed) ≡ computing l.schema l.objects l.args l.schema.computed
