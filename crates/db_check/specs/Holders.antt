-- A map from pointers and values to the objects that hold them.
use Rattle.std.specs.Ordering.{nat_cmp, on, then_cmp}
use Rattle.std.specs.declared.cmp.Ordering.{Ordering}
use Rattle.std.specs.BTreeMap as tree
use Rattle.ev_value.specs.Order.{val_cmp}
use Rattle.db_check.specs.Exclusive.{Holding}
use Rattle.db_check.specs.declared.holders.Holders.{Holders}
use Rattle.db_check.specs.declared.holders.Key.{Key}

-- by pointer, and of one pointer by value
abbrev pub key_cmp : Key → Key → Ordering
key_cmp = then_cmp (on (λ (k : Key). k.pointer) nat_cmp) (on (λ (k : Key). k.value) val_cmp)

-- who holds a value for a pointer, as a map says
abbrev pub held_by : Holders → Holding
held_by h p v = tree.get key_cmp h.map (record { pointer = p.0; value = v })
