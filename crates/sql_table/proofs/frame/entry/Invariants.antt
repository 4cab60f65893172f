use Rattle.std.proofs.Common.{◌≡◌, drop}
use Rattle.sql_table.specs.Names.{entry}
use Rattle.sql_table.proofs.frame.entry.Given as goal

abbrev pub invariant-loop-entry : goal.invariant-loop-entry
invariant-loop-entry l = entry l.name (drop l.entry-index l.entries) ≡ entry l.name l.entries
