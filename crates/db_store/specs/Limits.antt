-- Types of values, and constraints on one value.
use Rattle.std.specs.Prelude.{◌&&◌, Bool, true, false, length, pos}
use Rattle.std.specs.List.{list_any}
use Rattle.std.specs.Ordering.{int_cmp, is_eq, is_le, is_lt, is_ge, is_gt}
use Rattle.std.specs.Str.{chars}
use Rattle.ev_value.specs.Order.{val_cmp}
use Rattle.ev_value.specs.declared.value.ScalarTy.{ScalarTy}
use Rattle.ev_value.specs.declared.value.ScalarTy.TheVariants as scalar
use Rattle.ev_value.specs.declared.value.Val.{Val, Row_of-Val, end_of-Val, more_of-Val}
use Rattle.ev_value.specs.declared.value.Val as val
use Rattle.ev_schema.specs.declared.pointer.Limit.{Limit}
use Rattle.ev_schema.specs.declared.pointer.Limit.TheVariants as limit

-- whether a value is of a scalar type
abbrev pub has_type : ScalarTy → Val → Bool
has_type scalar.Int64 (val.Int z) = true
has_type scalar.Str (val.Str s) = true
has_type scalar.Bool (val.Bool b) = true
has_type scalar.Uuid (val.Id n) = true
has_type _ _ = false

-- whether each of some elements is of a scalar type
abbrev pub have_type : {n : _} → ScalarTy → Row_of-Val n → Bool
have_type t end_of-Val = true
have_type t (more_of-Val v vs) = has_type t v && have_type t vs

-- whether a value is an array whose elements are each of a scalar type
abbrev pub is_array_of : ScalarTy → Val → Bool
is_array_of t (val.Array' n elements) = have_type t elements
is_array_of t _ = false

-- whether two values are one
abbrev pub same : Val → Val → Bool
same v w = is_eq (val_cmp v w)

-- Whether a value meets a constraint. That no two objects have one value is no constraint on one value.
abbrev pub meets : Limit → Val → Bool
meets (limit.MinValue n) (val.Int z) = is_ge (int_cmp z n)
meets (limit.MaxValue n) (val.Int z) = is_le (int_cmp z n)
meets (limit.MinExValue n) (val.Int z) = is_gt (int_cmp z n)
meets (limit.MaxExValue n) (val.Int z) = is_lt (int_cmp z n)
meets (limit.MinLen n) (val.Str s) = is_ge (int_cmp (pos (length (chars s))) n)
meets (limit.MaxLen n) (val.Str s) = is_le (int_cmp (pos (length (chars s))) n)
meets (limit.OneOf vs) v = list_any (same v) vs
meets _ _ = true
