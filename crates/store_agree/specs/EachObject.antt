-- What is said of each object in a value.
use Rattle.std.specs.Prelude.{ℕ, ◌&&◌, Bool, true}
use Rattle.ev_value.specs.declared.value.Val.{Val, Row_of-Val, end_of-Val, more_of-Val}
use Rattle.ev_value.specs.declared.value.Val as val

module _ (p : ℕ → Bool) where
  unfoldable mutual
    -- P of the id of each object in a value
    pub each_object : Val → Bool
    each_object (val.Obj id) = p id
    each_object (val.Tuple' _ components) = each_object_of components
    each_object (val.Array' _ elements) = each_object_of elements
    each_object _ = true

    -- the same of several values
    pub each_object_of : {m : _} → Row_of-Val m → Bool
    each_object_of end_of-Val = true
    each_object_of (more_of-Val v rest) = each_object v && each_object_of rest
