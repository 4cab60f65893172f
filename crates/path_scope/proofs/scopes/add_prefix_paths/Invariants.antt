-- What was appended, and the prefixes that are left.
use Rattle.std.proofs.Common.{◌≡◌, ◌++◌, [], length}
use Rattle.path_scope.specs.Factored.{bound_within}
use Rattle.path_scope.proofs.scopes.add_prefix_paths.Given as goal

abbrev pub invariant-loop-last : goal.invariant-loop-last
invariant-loop-last l = l.out ++ bound_within l.rest [] ≡ l.fn.out ++ bound_within l.prefixes []

abbrev pub decreases-loop-last : goal.decreases-loop-last
decreases-loop-last l = length l.rest
