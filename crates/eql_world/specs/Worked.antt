-- What the code works out object by object.
use Rattle.std.specs.Prelude.{◌≡◌, List, map}
use Rattle.ev_value.specs.declared.args.Args.{Args}
use Rattle.ev_value.specs.declared.item.Item.{Item}
use Rattle.ev_value.specs.declared.value.Val.{Val}
use Rattle.core_ir.specs.declared.phase.Carded.{Carded}
use Rattle.ev_schema.specs.declared.schema.Schema.{Schema}
use Rattle.db_store.specs.declared.object.Object.{Object}
use Rattle.db_store.specs.Objects.{as_value}
use Rattle.eql_sem.specs.World.{World}
use Rattle.eql_world.specs.declared.column.Column.{Column}
use Rattle.eql_world.specs.StoreWorld.{values_for, world_where, world_of, by_columns}

-- the list of an expression for each object in turn
abbrev pub lists_for : World → Carded → List Object → List (List (Item Val))
lists_for w x os = map (λ o. values_for w x (as_value o)) os

-- a world in which all computed pointers give what they should
abbrev pub IsWhole : Schema → List Object → Args → List Column → Type 0
IsWhole s os args columns = world_where s os args (by_columns os columns) ≡ world_of s os args
