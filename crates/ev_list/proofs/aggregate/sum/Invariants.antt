use Rattle.std.proofs.Common.{◌≡◌, ◌*◌, ◌^◌, ◌+ℤ◌, ◌≤ℤ◌, neg_ℤ, pos, drop}
use Rattle.ev_list.specs.Aggregate.{total}
use Rattle.ev_list.proofs.aggregate.sum.Given as goal

abbrev pub invariant-loop-value : goal.invariant-loop-value
invariant-loop-value l =
    (l.total +ℤ total (drop l.value-index l.values) ≡ total l.values) × (neg_ℤ (pos (l.value-index * 2 ^ 63)) ≤ℤ l.total) × (l.total ≤ℤ pos (l.value-index * 2 ^ 63))
