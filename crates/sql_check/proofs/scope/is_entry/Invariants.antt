use Rattle.std.proofs.Common.{◌≡◌, drop}
use Rattle.sql_ast.specs.WellFormed.{type_under}
use Rattle.sql_check.specs.Names.{is_there}
use Rattle.sql_check.proofs.scope.is_entry.Given as goal

abbrev pub invariant-loop-entry : goal.invariant-loop-entry
invariant-loop-entry l = is_there (type_under l.name (drop l.entry-index l.entries)) ≡ is_there (type_under l.name l.entries)
