use Rattle.std.proofs.Common.{◌≡◌, ◌++◌, drop, map}
use Rattle.tree_weight.specs.Capped.{capped_sizes}
use Rattle.tree_weight.specs.Rules.{alone}
use Rattle.tree_weight.proofs.rules.rulings_alone.Given as goal

abbrev pub invariant-loop-policy : goal.invariant-loop-policy
invariant-loop-policy l = l.rules ++ map (alone capped_sizes) (drop l.policy-index l.policies) ≡ map (alone capped_sizes) l.policies
