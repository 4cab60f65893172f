use Rattle.std.proofs.Common.{◌≡◌, ◌++◌, drop}
use Rattle.ev_value.specs.Item.{faults, only_faults}
use Rattle.ev_list.proofs.items.faults_alone.Given as goal

abbrev pub invariant-loop-item : goal.invariant-loop-item
invariant-loop-item g l = l.alone ++ only_faults (faults (drop l.item-index l.items)) ≡ only_faults (faults l.items)
