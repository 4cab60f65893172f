use Rattle.std.proofs.Common.{◌≡◌, ◌++◌, drop}
use Rattle.eql_sem.specs.Forms.{forms_only}
use Rattle.eql_sem.proofs.nested.forms_of.Given as goal

abbrev pub invariant-loop-item : goal.invariant-loop-item
invariant-loop-item l = l.all ++ forms_only (drop l.item-index l.items) ≡ forms_only l.items
