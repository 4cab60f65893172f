use Rattle.std.proofs.Common.{◌≡◌, drop}
use Rattle.std.specs.List.{list_all}
use Rattle.ev_list.specs.Aggregate.{is_true}
use Rattle.ev_list.proofs.aggregate.all_true.Given as goal

abbrev pub invariant-loop-value : goal.invariant-loop-value
invariant-loop-value l = list_all is_true (drop l.value-index l.values) ≡ list_all is_true l.values
