-- Which rules hold for a type.
use Rattle.std.specs.Prelude.{ℕ, zero, suc, ◌&&◌, ◌||◌, Bool, false, List, [], ◌∷◌, Option, Some, None, slice_get, if◌then◌else◌}
use Rattle.std.specs.List.{list_any}
use Rattle.ev_value.specs.declared.value.Val.{Val}
use Rattle.ev_value.specs.declared.value.Val.TheVariants as made
use Rattle.ev_list.specs.Order.{in_order, keyless}
use Rattle.ev_list.specs.declared.order.Absent.TheVariants as absent
use Rattle.ev_list.specs.declared.order.Direction.TheVariants as direction
use Rattle.ev_list.specs.declared.order.KeyOrder.{KeyOrder}
use Rattle.ev_list.specs.declared.order.Keyed.{Keyed}
use Rattle.core_ir.specs.declared.path.TypeId.{TypeId}
use Rattle.ev_schema.specs.declared.policy.Policy.{Policy}
use Rattle.ev_schema.specs.declared.types.TypeInfo.{TypeInfo}
use Rattle.ev_schema.specs.Types.{is_subtype}

-- the name of a type as a key; none where there is no such type
abbrev pub name_if_known : Option TypeInfo → Option Val
name_if_known None = None
name_if_known (Some info) = Some (made.Str info.name)

-- by names, in byte order
abbrev pub by_name : List KeyOrder
by_name = record { direction = direction.Ascending; absent = absent.First } ∷ []

-- The rules that hold for a type are its own and those of its ancestors. Here they stand in the order of the text, each
-- as its number with the name of the type that declares it; the first rule of the list has the number k.
abbrev pub named_rules : List TypeInfo → TypeId → ℕ → List Policy → List (Keyed ℕ)
named_rules types t k [] = []
named_rules types t k (p ∷ more) =
    if is_subtype types t p.origin
    then record { keys = name_if_known (slice_get types p.origin.0) ∷ []; value = k } ∷ named_rules types t (suc k) more
    else named_rules types t (suc k) more

-- the numbers of the rules that hold for a type, by the name of the type that declares them, and of one type in the order of the text
abbrev pub rules_of : List TypeInfo → List Policy → TypeId → List ℕ
rules_of types policies t = keyless (in_order by_name (named_rules types t 0 policies))

-- whether some rule holds for a type
abbrev pub has_rules : List TypeInfo → List Policy → TypeId → Bool
has_rules types policies t = list_any (λ (p : Policy). is_subtype types t p.origin) policies

-- whether rules hold for a type among the first so many, which is a given one or extends it
abbrev pub governed_below : List TypeInfo → List Policy → TypeId → ℕ → Bool
governed_below types policies t zero = false
governed_below types policies t (suc k) =
    (is_subtype types (record { 0 = k }) t && has_rules types policies (record { 0 = k })) || governed_below types policies t k
