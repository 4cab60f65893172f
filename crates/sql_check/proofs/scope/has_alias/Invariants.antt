use Rattle.std.proofs.Common.{◌≡◌, drop}
use Rattle.sql_check.specs.Names as names
use Rattle.sql_check.proofs.scope.has_alias.Given as goal

abbrev pub invariant-loop-item : goal.invariant-loop-item
invariant-loop-item l = names.has_alias l.name (drop l.item-index l.items) ≡ names.has_alias l.name l.items
