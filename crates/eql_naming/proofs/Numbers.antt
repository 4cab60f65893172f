-- The number that digits write, as the cast to a number gives it.
use Rattle.std.proofs.Common.{◌≡◌, ℕ, pos, List, Option, Some, None, option_and_then, refl, rules}
use Rattle.ev_value.specs.Casts.{number_written, int64_in, read_item}
use Rattle.ev_value.specs.declared.item.Fault.{Fault}
use Rattle.ev_value.specs.declared.item.Item.TheVariants as item
use Rattle.ev_value.specs.declared.value.Val.{Val}
use Rattle.ev_value.specs.declared.value.Val.TheVariants as val
use Rattle.eql_naming.specs.Forms.{number, number_or_zero}

by_value : (o : Option Val) (v : Val) → read_item o ≡ item.Value v → v ≡ number_or_zero o
by_value (Some w) v e = search rules
by_value None v e = search rules

by_fault : (o : Option Val) (f : Fault) → read_item o ≡ item.Fault f → val.Int (pos 0) ≡ number_or_zero o
by_fault (Some w) f e = search rules
by_fault None f e = refl

pub number_value : (digits : List ℕ) (v : Val) → read_item (option_and_then int64_in (number_written digits)) ≡ item.Value v → v ≡ number digits
number_value digits v e = by_value (option_and_then int64_in (number_written digits)) v e

pub number_fault : (digits : List ℕ) (f : Fault) → read_item (option_and_then int64_in (number_written digits)) ≡ item.Fault f → val.Int (pos 0) ≡ number digits
number_fault digits f e = by_fault (option_and_then int64_in (number_written digits)) f e
