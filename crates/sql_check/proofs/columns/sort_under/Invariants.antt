use Rattle.std.proofs.Common.{◌≡◌, drop}
use Rattle.sql_check.specs.Types.{sort_under}
use Rattle.sql_check.proofs.columns.sort_under.Given as goal

abbrev pub invariant-loop-column : goal.invariant-loop-column
invariant-loop-column l = sort_under l.name (drop l.column-index l.columns) ≡ sort_under l.name l.columns
