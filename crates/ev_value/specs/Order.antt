-- The order of all values.
use Rattle.std.specs.Prelude.{◌≡◌, ◌↔◌, ℕ}
use Rattle.std.specs.Cmp.{IsTotalOrder}
use Rattle.std.specs.Cmp.Lexicographic.{slice_cmp}
use Rattle.std.specs.declared.cmp.Ordering.{Ordering}
use Rattle.std.specs.declared.cmp.Ordering.TheVariants.{Less, Equal, Greater}
use Rattle.std.specs.Ordering.{nat_cmp, int_cmp, bool_cmp, ordering_then}
use Rattle.ev_value.specs.declared.value.Val.{Val, Int, Str, Bool, Id, Obj, Tuple', Array', Row_of-Val, end_of-Val, more_of-Val}

-- the place of a value's kind among the kinds
abbrev pub kind : Val → ℕ
kind (Int _) = 0
kind (Str _) = 1
kind (Bool _) = 2
kind (Id _) = 3
kind (Obj _) = 4
kind (Tuple' _ _) = 5
kind (Array' _ _) = 6

unfoldable mutual
  -- numbers by size, texts by their bytes, false before true, ids by number, tuples by their components, arrays by their elements; else by kind
  pub val_cmp : Val → Val → Ordering
  val_cmp (Int a) (Int b) = int_cmp a b
  val_cmp (Str s) (Str t) = slice_cmp nat_cmp s t
  val_cmp (Bool a) (Bool b) = bool_cmp a b
  val_cmp (Id m) (Id n) = nat_cmp m n
  val_cmp (Obj m) (Obj n) = nat_cmp m n
  val_cmp (Tuple' _ v) (Tuple' _ w) = parts_cmp v w
  val_cmp (Array' _ v) (Array' _ w) = parts_cmp v w
  val_cmp v w = nat_cmp (kind v) (kind w)

  -- components or elements from the left; a proper prefix is less
  pub parts_cmp : {m n : _} → Row_of-Val m → Row_of-Val n → Ordering
  parts_cmp end_of-Val end_of-Val = Equal
  parts_cmp end_of-Val (more_of-Val w ws) = Less
  parts_cmp (more_of-Val v vs) end_of-Val = Greater
  parts_cmp (more_of-Val v vs) (more_of-Val w ws) = ordering_then (val_cmp v w) (parts_cmp vs ws)

-- of two values one is less or they are equal, turned round with the sides; less chains; equal is the same value alone
abbrev pub ValuesAreOrdered : Type 0
ValuesAreOrdered = IsTotalOrder val_cmp × ((v w : Val) → (val_cmp v w ≡ Equal) ↔ (v ≡ w))
