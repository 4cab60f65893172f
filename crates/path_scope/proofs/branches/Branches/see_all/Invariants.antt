-- The occurrences so far were seen.
use Rattle.std.proofs.Common.{◌≡◌, take}
use Rattle.core_ir.specs.declared.path.Path.{Path}
use Rattle.path_scope.specs.Branches.{node_at, seeing_all}
use Rattle.path_scope.proofs.branches.Branches.see_all.Given as goal

abbrev pub invariant-loop-occurrence : goal.invariant-loop-occurrence
invariant-loop-occurrence l = (p : Path) → node_at l.self p ≡ seeing_all (take l.occurrence-index l.all) p (node_at l.fn.self p)
