use Rattle.std.proofs.Common.{◌≡◌, drop}
use Rattle.ev_value.specs.Item.{faults}
use Rattle.edge_run.proofs.answers.first_fault.Given as goal

abbrev pub invariant-loop-item : goal.invariant-loop-item
invariant-loop-item l = faults (drop l.item-index l.items) ≡ faults l.items
