use Rattle.std.proofs.Common.{◌≡◌, ◌≤◌, length, take}
use Rattle.eql_grammar.specs.Trees.{all_round, body_height}
use Rattle.eql_build.proofs.Rounds.{high_round}
use Rattle.eql_build.proofs.nests.height_round.Given as goal

abbrev pub invariant-loop-left : goal.invariant-loop-left
invariant-loop-left l = (l.left ≤ length l.heads) × (high_round (take l.left l.heads) l.height ≡ body_height (all_round l.heads l.inside))

abbrev pub decreases-loop-left : goal.decreases-loop-left
decreases-loop-left l = l.left
