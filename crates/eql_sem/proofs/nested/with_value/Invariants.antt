use Rattle.std.proofs.Common.{◌≡◌, ◌++◌, drop}
use Rattle.eql_sem.specs.Forms.{with_forms}
use Rattle.eql_sem.proofs.nested.with_value.Given as goal

abbrev pub invariant-loop-item : goal.invariant-loop-item
invariant-loop-item l = l.all ++ with_forms l.value (drop l.item-index l.forms) ≡ with_forms l.value l.forms
