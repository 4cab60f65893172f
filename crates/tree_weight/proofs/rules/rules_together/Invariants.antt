use Rattle.std.proofs.Common.{◌≡◌, drop}
use Rattle.tree_weight.specs.Capped.{capped_sizes, no_size}
use Rattle.tree_weight.specs.Rules.{rules_behind}
use Rattle.tree_weight.proofs.rules.rules_together.Given as goal

abbrev pub invariant-loop-rule : goal.invariant-loop-rule
invariant-loop-rule l = rules_behind capped_sizes l.schema.types l.heirs l.total (drop l.rule-index l.rules) ≡ rules_behind capped_sizes l.schema.types l.heirs no_size l.rules
