use Rattle.std.proofs.Common.{◌≡◌, ◌++◌, drop}
use Rattle.ev_value.specs.Item.{faults}
use Rattle.eql_sem.proofs.item.faults_among.Given as goal

abbrev pub invariant-loop-item : goal.invariant-loop-item
invariant-loop-item g l = l.all ++ faults (drop l.item-index l.items) ≡ faults l.items
