use Rattle.std.proofs.Common.{◌≡◌, ◌++◌, drop, map}
use Rattle.eql_sem.proofs.nested.forms_of_values.Given as goal

abbrev pub invariant-loop-item : goal.invariant-loop-item
invariant-loop-item l = l.all ++ map (λ i. i.form) (drop l.item-index l.items) ≡ map (λ i. i.form) l.items
