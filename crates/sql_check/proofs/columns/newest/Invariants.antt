use Rattle.std.proofs.Common.{◌≡◌, drop, None}
use Rattle.sql_check.specs.TypeLists.{known_now, newest_known}
use Rattle.sql_check.proofs.columns.newest.Given as goal

abbrev pub invariant-loop-entry : goal.invariant-loop-entry
invariant-loop-entry l = newest_known l.alias (drop l.entry-index l.known) (known_now l.found) ≡ newest_known l.alias l.known None
