use Rattle.std.proofs.Common.{◌≡◌}
use Rattle.tree_weight.specs.Capped.{capped_sizes}
use Rattle.tree_weight.specs.Rules.{rules_below}
use Rattle.tree_weight.proofs.rules.sizes_of_types.Given as goal

abbrev pub invariant-loop-i : goal.invariant-loop-i
invariant-loop-i l = l.sizes ≡ rules_below capped_sizes l.schema.types l.rules l.i
