-- The rules so far and those that are left are all of them.
use Rattle.std.proofs.Common.{◌≡◌, ◌++◌, drop, zero}
use Rattle.tree_weight.specs.Capped.{brought_of, capped_sizes}
use Rattle.tree_weight.specs.Rules.{rulings}
use Rattle.tree_weight.specs.Trees.{measured}
use Rattle.tree_weight.proofs.rules.rulings.Given as goal

abbrev pub invariant-loop-i : goal.invariant-loop-i
invariant-loop-i l =
    l.rules ++ rulings capped_sizes (measured capped_sizes (brought_of l.plain)) l.conditions l.i (drop l.i l.policies)
    ≡ rulings capped_sizes (measured capped_sizes (brought_of l.plain)) l.conditions zero l.policies
