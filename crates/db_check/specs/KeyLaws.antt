-- Keys of a pointer and a value are in a total order, and equal ones are the same.
use Rattle.std.specs.Cmp.{IsTotalOrder, on_total, then_total, nat_cmp_total}
use Rattle.ev_value.proofs.Orders.{values_ordered}
use Rattle.db_check.specs.Holders.{key_cmp}
use Rattle.db_check.specs.declared.holders.Key.{Key}

pub key_total : IsTotalOrder key_cmp
key_total = then_total (on_total (λ (k : Key). k.pointer) nat_cmp_total) (on_total (λ (k : Key). k.value) values_ordered.0)
