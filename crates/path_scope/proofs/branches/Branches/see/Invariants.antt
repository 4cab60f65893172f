-- The beginnings so far were seen.
use Rattle.std.proofs.Common.{◌≡◌, ◌≤◌, length}
use Rattle.core_ir.specs.declared.path.Path.{Path}
use Rattle.path_scope.specs.Branches.{node_at}
use Rattle.path_scope.proofs.Seeing.{seeing_to}
use Rattle.path_scope.proofs.branches.Branches.see.Given as goal

abbrev pub invariant-loop-count : goal.invariant-loop-count
invariant-loop-count l = (l.count ≤ length l.path.steps) × ((p : Path) → node_at l.self p ≡ seeing_to l.count l.kind l.path p (node_at l.fn.self p))
