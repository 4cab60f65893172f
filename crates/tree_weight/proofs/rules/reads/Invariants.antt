use Rattle.std.proofs.Common.{◌≡◌, drop}
use Rattle.std.specs.List.{list_any}
use Rattle.tree_weight.specs.Rules.{is_select}
use Rattle.tree_weight.proofs.rules.reads.Given as goal

abbrev pub invariant-loop-kind : goal.invariant-loop-kind
invariant-loop-kind l = list_any is_select (drop l.kind-index l.kinds) ≡ list_any is_select l.kinds
