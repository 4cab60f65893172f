use Rattle.std.proofs.Common.{◌≡◌, ◌++◌, drop}
use Rattle.eql_sem.specs.Bindings.{bound_to}
use Rattle.eql_sem.proofs.path_list.turns.Given as goal

abbrev pub invariant-loop-item : goal.invariant-loop-item
invariant-loop-item l = l.all ++ bound_to (drop l.item-index l.items) ≡ bound_to l.items
