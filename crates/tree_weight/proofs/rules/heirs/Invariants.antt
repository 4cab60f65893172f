use Rattle.std.proofs.Common.{◌≡◌}
use Rattle.tree_weight.specs.Rules.{heirs_below}
use Rattle.tree_weight.proofs.rules.heirs.Given as goal

abbrev pub invariant-loop-i : goal.invariant-loop-i
invariant-loop-i l = l.found ≡ heirs_below l.schema.types l.ty l.i
