use Rattle.std.proofs.Common.{◌≡◌, ◌++◌, reverse, length}
use Rattle.schema_build.proofs.parts.put_backward.Given as goal

abbrev pub invariant-loop-decl : goal.invariant-loop-decl
invariant-loop-decl l = l.all.items ++ reverse l.left ≡ l.fn.all.items ++ reverse l.fn.decls

abbrev pub decreases-loop-decl : goal.decreases-loop-decl
decreases-loop-decl l = length l.left
