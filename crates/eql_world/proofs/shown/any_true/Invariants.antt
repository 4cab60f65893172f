use Rattle.std.proofs.Common.{◌≡◌, drop}
use Rattle.std.specs.List.{list_any}
use Rattle.ev_value.specs.Item.{values}
use Rattle.ev_list.specs.Aggregate.{is_true}
use Rattle.eql_world.proofs.shown.any_true.Given as goal

abbrev pub invariant-loop-item : goal.invariant-loop-item
invariant-loop-item l = list_any is_true (values (drop l.item-index l.items)) ≡ list_any is_true (values l.items)
