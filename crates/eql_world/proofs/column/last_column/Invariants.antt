use Rattle.std.proofs.Common.{◌≡◌, drop, None}
use Rattle.std.specs.Option.{option_copied}
use Rattle.eql_world.specs.StoreWorld.{last_column}
use Rattle.eql_world.proofs.column.last_column.Given as goal

abbrev pub invariant-loop-column : goal.invariant-loop-column
invariant-loop-column l = last_column (drop l.column-index l.columns) l.pointer (option_copied l.found) ≡ last_column l.columns l.pointer None
