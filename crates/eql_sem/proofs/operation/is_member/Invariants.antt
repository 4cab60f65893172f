use Rattle.std.proofs.Common.{◌≡◌, drop}
use Rattle.std.specs.List.{list_any}
use Rattle.eql_sem.specs.Operations.{same}
use Rattle.eql_sem.proofs.operation.is_member.Given as goal

abbrev pub invariant-loop-other : goal.invariant-loop-other
invariant-loop-other l = list_any (same l.value) (drop l.other-index l.set) ≡ list_any (same l.value) l.set
