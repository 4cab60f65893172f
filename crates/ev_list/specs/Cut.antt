-- Offset and limit.
use Rattle.std.specs.Prelude.{ℕ, List, take, drop, pos, negsuc, Option, Some, None}
use Rattle.ev_value.specs.declared.item.Fault.TheVariants as fault
use Rattle.ev_value.specs.declared.item.Item.{Item}
use Rattle.ev_value.specs.declared.item.Item.TheVariants as item
use Rattle.ev_value.specs.declared.value.Val.{Val}
use Rattle.ev_value.specs.declared.value.Val as val

-- how many elements an offset or a limit counts: none is said where it is absent or no number, and a negative one is a fault
abbrev pub limit_of : Option Val → Item (Option ℕ)
limit_of (Some (val.Int (pos n))) = item.Value (Some n)
limit_of (Some (val.Int (negsuc n))) = item.Fault fault.NegativeLimit
limit_of _ = item.Value None

-- the elements without so many at their front
abbrev pub behind : {A : Type 0} → Option ℕ → List A → List A
behind None xs = xs
behind (Some n) xs = drop n xs

-- so many elements from the front on
abbrev pub first : {A : Type 0} → Option ℕ → List A → List A
first None xs = xs
first (Some n) xs = take n xs

-- what an offset and a limit leave: the limit counts behind the offset
abbrev pub section : {A : Type 0} → Option ℕ → Option ℕ → List A → List A
section offset limit xs = first limit (behind offset xs)
