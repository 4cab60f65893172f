use Rattle.std.proofs.Common.{◌≡◌, ◌++◌, drop, map}
use Rattle.sql_encode.specs.Rows.{rows_of}
use Rattle.sql_encode.proofs.encoding.rows_of_all.Given as goal

abbrev pub invariant-loop-source : goal.invariant-loop-source
invariant-loop-source l = l.all ++ map (rows_of l.schema l.objects) (drop l.source-index l.sources) ≡ map (rows_of l.schema l.objects) l.sources
