-- What is brought so far, and then by the computed pointers that are left, is all that is brought.
use Rattle.std.proofs.Common.{◌≡◌, drop}
use Rattle.tree_weight.specs.Brought.{with_all, brought_over}
use Rattle.tree_weight.specs.Capped.{brought_of, capped_sizes, kept}
use Rattle.tree_weight.proofs.weights.Weights.over.Given as goal

abbrev pub invariant-loop-computed : goal.invariant-loop-computed
invariant-loop-computed l = with_all capped_sizes (brought_of l.weights) (drop l.computed-index l.listed) ≡ brought_over capped_sizes (kept l.fn.types) l.schema
