-- What a cast gives.
use Rattle.std.specs.Prelude.{ℕ, ◌+◌, ◌-◌, ◌*◌, ◌==◌, ◌&&◌, nat_le, if◌then◌else◌, Bool, true, false, List, [], ◌∷◌, codes, ℤ, pos, neg_ℤ, Option, Some, None, option_map, option_and_then}
use Rattle.std.specs.Fmt.{signed_decimal}
use Rattle.std.specs.Int.{w128, from_be_bytes}
use Rattle.std.specs.List.{list_all}
use Rattle.std.specs.Str.{bytes_eq}
use Rattle.uuid.specs.Text.{parsed}
use Rattle.ev_value.specs.JsonText.{id_text}
use Rattle.ev_value.specs.Operator.{is_int64}
use Rattle.ev_value.specs.declared.item.Fault.TheVariants as fault
use Rattle.ev_value.specs.declared.item.Item.{Item}
use Rattle.ev_value.specs.declared.item.Item.TheVariants as item
use Rattle.ev_value.specs.declared.value.ScalarTy.{ScalarTy}
use Rattle.ev_value.specs.declared.value.ScalarTy.TheVariants as ty
use Rattle.ev_value.specs.declared.value.Val.{Val}
use Rattle.ev_value.specs.declared.value.Val as val

abbrev pub is_digit : ℕ → Bool
is_digit c = nat_le 48 c && nat_le c 57

-- the number that decimal digits write behind those of n
abbrev pub number_after : ℕ → List ℕ → ℕ
number_after n [] = n
number_after n (c ∷ cs) = number_after (n * 10 + (c - 48)) cs

-- the number that one decimal digit or more write, with its sign
abbrev pub digits_written : (ℕ → ℤ) → List ℕ → Option ℤ
digits_written sign [] = None
digits_written sign (c ∷ cs) = if list_all is_digit (c ∷ cs) then Some (sign (number_after 0 (c ∷ cs))) else None

-- the number that an optional minus and decimal digits write
abbrev pub number_written : List ℕ → Option ℤ
number_written [] = None
number_written (c ∷ cs) = if c == 45 then digits_written (λ n. neg_ℤ (pos n)) cs else digits_written pos (c ∷ cs)

-- a number as a value, where it has 64 bits
abbrev pub int64_in : ℤ → Option Val
int64_in z = if is_int64 z then Some (val.Int z) else None

-- the bool that a text names
abbrev pub truth_written : List ℕ → Option Val
truth_written s = if bytes_eq s (codes "true") then Some (val.Bool true) else if bytes_eq s (codes "false") then Some (val.Bool false) else None

-- the uuid that a text writes, in one of the forms that the crate `uuid` parses
abbrev pub id_written : List ℕ → Option Val
id_written s = option_map (λ bytes. val.Id (from_be_bytes w128 bytes)) (parsed s)

-- what was read, or a fault
abbrev pub read_item : Option Val → Item Val
read_item (Some v) = item.Value v
read_item None = item.Fault fault.CastText

-- what the cast of a value to a scalar type gives: the same value, its printed text, or what its text writes; a cast
-- that no query with types has gives the fault of a text that cannot be read
abbrev pub item_of_cast : ScalarTy → Val → Item Val
item_of_cast ty.Int64 (val.Int z) = item.Value (val.Int z)
item_of_cast ty.Int64 (val.Str s) = read_item (option_and_then int64_in (number_written s))
item_of_cast ty.Bool (val.Bool b) = item.Value (val.Bool b)
item_of_cast ty.Bool (val.Str s) = read_item (truth_written s)
item_of_cast ty.Uuid (val.Id n) = item.Value (val.Id n)
item_of_cast ty.Uuid (val.Str s) = read_item (id_written s)
item_of_cast ty.Str (val.Str s) = item.Value (val.Str s)
item_of_cast ty.Str (val.Int z) = item.Value (val.Str (signed_decimal z))
item_of_cast ty.Str (val.Bool b) = item.Value (val.Str (if b then codes "true" else codes "false"))
item_of_cast ty.Str (val.Id n) = item.Value (val.Str (id_text n))
item_of_cast _ _ = item.Fault fault.CastText
