use Rattle.std.proofs.Common.{◌≡◌, drop, None}
use Rattle.sql_check.specs.Names.{now_of}
use Rattle.sql_check.specs.NameLists as lists
use Rattle.sql_check.proofs.scope.newest.Given as goal

abbrev pub invariant-loop-item : goal.invariant-loop-item
invariant-loop-item l = lists.newest l.name (drop l.item-index l.items) (now_of l.found) ≡ lists.newest l.name l.items None
