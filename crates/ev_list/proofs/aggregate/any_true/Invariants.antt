use Rattle.std.proofs.Common.{◌≡◌, drop}
use Rattle.std.specs.List.{list_any}
use Rattle.ev_list.specs.Aggregate.{is_true}
use Rattle.ev_list.proofs.aggregate.any_true.Given as goal

abbrev pub invariant-loop-value : goal.invariant-loop-value
invariant-loop-value l = list_any is_true (drop l.value-index l.values) ≡ list_any is_true l.values
