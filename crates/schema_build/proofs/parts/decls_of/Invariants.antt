use Rattle.std.proofs.Common.{◌≡◌, ◌++◌, reverse, length}
use Rattle.schema_build.specs.Parts.{decls_of}
use Rattle.schema_build.proofs.parts.decls_of.Given as goal

abbrev pub invariant-loop-part : goal.invariant-loop-part
invariant-loop-part l = l.all.items ++ reverse (decls_of l.left) ≡ reverse (decls_of l.fn.parts)

abbrev pub decreases-loop-part : goal.decreases-loop-part
decreases-loop-part l = length l.left
