use Rattle.std.proofs.Common.{◌≡◌, length}
use Rattle.eql_grammar.specs.Trees.{all_round}
use Rattle.eql_build.proofs.nests.all_round.Given as goal

abbrev pub invariant-loop-head : goal.invariant-loop-head
invariant-loop-head l = all_round l.left l.body ≡ all_round l.fn.heads l.fn.inside

abbrev pub decreases-loop-head : goal.decreases-loop-head
decreases-loop-head l = length l.left
