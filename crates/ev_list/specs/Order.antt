-- The order by keys, of which some may be absent.
use Rattle.std.specs.Prelude.{Bool, List, [], ◌∷◌, Option, Some, None, if◌then◌else◌}
use Rattle.std.specs.declared.cmp.Ordering.{Ordering}
use Rattle.std.specs.declared.cmp.Ordering.TheVariants.{Less, Equal, Greater}
use Rattle.std.specs.Ordering.{is_gt, ordering_then, ordering_reverse}
use Rattle.ev_value.specs.Order.{val_cmp}
use Rattle.ev_value.specs.declared.value.Val.{Val}
use Rattle.ev_list.specs.declared.order.Absent.{Absent}
use Rattle.ev_list.specs.declared.order.Absent.TheVariants as absent
use Rattle.ev_list.specs.declared.order.Direction.{Direction}
use Rattle.ev_list.specs.declared.order.Direction.TheVariants as direction
use Rattle.ev_list.specs.declared.order.KeyOrder.{KeyOrder}
use Rattle.ev_list.specs.declared.order.Keyed.{Keyed}

-- the order of values, or that order turned round
abbrev pub directed : Direction → Ordering → Ordering
directed direction.Ascending o = o
directed direction.Descending o = ordering_reverse o

-- how an absent key stands to one with a value, whatever the direction is
abbrev pub absent_cmp : Absent → Ordering
absent_cmp absent.First = Less
absent_cmp absent.Last = Greater

-- how two elements are ordered by one key
abbrev pub key_cmp : KeyOrder → Option Val → Option Val → Ordering
key_cmp k None None = Equal
key_cmp k None (Some w) = absent_cmp k.absent
key_cmp k (Some v) None = ordering_reverse (absent_cmp k.absent)
key_cmp k (Some v) (Some w) = directed k.direction (val_cmp v w)

-- the first key, and the keys behind it; a key that is missing is absent
abbrev pub first_key : List (Option Val) → Option Val
first_key [] = None
first_key (v ∷ vs) = v

abbrev pub later_keys : List (Option Val) → List (Option Val)
later_keys [] = []
later_keys (v ∷ vs) = vs

-- how two elements are ordered by their keys: by the first key that tells them apart
abbrev pub keys_cmp : List KeyOrder → List (Option Val) → List (Option Val) → Ordering
keys_cmp [] vs ws = Equal
keys_cmp (k ∷ ks) vs ws = ordering_then (key_cmp k (first_key vs) (first_key ws)) (keys_cmp ks (later_keys vs) (later_keys ws))

-- whether an element stands behind another that came later
abbrev pub is_behind : {A : Type 0} → List KeyOrder → Keyed A → Keyed A → Bool
is_behind ks x y = is_gt (keys_cmp ks x.keys y.keys)

-- an element in its place among later ones in order: in front of all but those that it is behind
abbrev pub placed : {A : Type 0} → List KeyOrder → Keyed A → List (Keyed A) → List (Keyed A)
placed ks x [] = x ∷ []
placed ks x (y ∷ ys) = if is_behind ks x y then y ∷ placed ks x ys else x ∷ y ∷ ys

-- the elements in order; those whose keys are equal stay as they stood
abbrev pub in_order : {A : Type 0} → List KeyOrder → List (Keyed A) → List (Keyed A)
in_order ks [] = []
in_order ks (x ∷ xs) = placed ks x (in_order ks xs)

-- the elements without their keys
abbrev pub keyless : {A : Type 0} → List (Keyed A) → List A
keyless [] = []
keyless (x ∷ xs) = x.value ∷ keyless xs
