-- The direct occurrences so far were seen.
use Rattle.std.proofs.Common.{◌≡◌, take}
use Rattle.core_ir.specs.declared.path.Path.{Path}
use Rattle.path_scope.specs.Branches.{node_at, seeing_direct}
use Rattle.path_scope.proofs.branches.Branches.see_direct.Given as goal

abbrev pub invariant-loop-d : goal.invariant-loop-d
invariant-loop-d l = (p : Path) → node_at l.self p ≡ seeing_direct (take l.d-index l.direct) p (node_at l.fn.self p)
