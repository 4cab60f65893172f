use Rattle.std.proofs.Common.{◌≡◌, drop}
use Rattle.tree_weight.specs.Rules.{concerns}
use Rattle.tree_weight.proofs.rules.concerns.Given as goal

abbrev pub invariant-loop-heir : goal.invariant-loop-heir
invariant-loop-heir l = concerns l.schema.types (drop l.heir-index l.heirs) l.origin ≡ concerns l.schema.types l.heirs l.origin
