use Rattle.schema_build.specs.Search.{IsSearch, left_of}
use Rattle.schema_build.proofs.lineage.lineage.Given as goal

abbrev pub invariant-loop-next : goal.invariant-loop-next
invariant-loop-next l = IsSearch l.bases l.fn.ty l.search

abbrev pub decreases-loop-next : goal.decreases-loop-next
decreases-loop-next l = left_of l.search
