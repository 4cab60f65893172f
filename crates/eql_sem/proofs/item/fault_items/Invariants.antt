use Rattle.std.proofs.Common.{◌≡◌, ◌++◌, drop}
use Rattle.ev_value.specs.Item.{only_faults}
use Rattle.eql_sem.proofs.item.fault_items.Given as goal

abbrev pub invariant-loop-fault : goal.invariant-loop-fault
invariant-loop-fault g l = l.all ++ only_faults (drop l.fault-index l.faults) ≡ only_faults l.faults
