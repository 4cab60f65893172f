use Rattle.std.proofs.Common.{◌≡◌, ◌++◌, drop}
use Rattle.ev_value.specs.Item.{bind}
use Rattle.eql_world.specs.StoreWorld.{by_columns}
use Rattle.eql_world.proofs.column.computed.Given as goal

abbrev pub invariant-loop-item : goal.invariant-loop-item
invariant-loop-item l = l.out ++ bind (drop l.item-index l.from) (by_columns l.objects l.columns l.fn.pointer) ≡ bind l.from (by_columns l.objects l.columns l.fn.pointer)
