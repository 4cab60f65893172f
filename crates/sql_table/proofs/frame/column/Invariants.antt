use Rattle.std.proofs.Common.{◌≡◌, drop}
use Rattle.sql_table.specs.Names.{column}
use Rattle.sql_table.proofs.frame.column.Given as goal

abbrev pub invariant-loop-shared : goal.invariant-loop-shared
invariant-loop-shared l = column l.alias l.name (drop l.shared-index l.scope) ≡ column l.alias l.name l.scope
