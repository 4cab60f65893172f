use Rattle.std.proofs.Common.{◌≡◌, ◌++◌, drop, map}
use Rattle.sql_encode.specs.Shapes.{shape_of}
use Rattle.sql_encode.proofs.catalog.shapes.Given as goal

abbrev pub invariant-loop-source : goal.invariant-loop-source
invariant-loop-source l = l.all ++ map (shape_of l.schema) (drop l.source-index l.sources) ≡ map (shape_of l.schema) l.sources
