use Rattle.std.proofs.Common.{◌≡◌, ◌++◌, drop}
use Rattle.eql_sem.specs.Operations.{branch_items}
use Rattle.eql_sem.proofs.operation.branches.Given as goal

abbrev pub invariant-loop-truth : goal.invariant-loop-truth
invariant-loop-truth l = l.all ++ branch_items (drop l.truth-index l.truths) l.value l.other ≡ branch_items l.truths l.value l.other
