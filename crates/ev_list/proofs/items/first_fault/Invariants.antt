use Rattle.std.proofs.Common.{◌≡◌, drop}
use Rattle.ev_list.specs.Items.{first_fault}
use Rattle.ev_list.proofs.items.first_fault.Given as goal

abbrev pub invariant-loop-item : goal.invariant-loop-item
invariant-loop-item g l = first_fault (drop l.item-index l.items) ≡ first_fault l.items
