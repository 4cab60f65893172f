-- Types by their names, and the pointers of a type in byte order of their names.
use Rattle.std.specs.Prelude.{ℕ, suc, List, [], ◌∷◌, Option, Some, None, slice_get, if◌then◌else◌}
use Rattle.std.specs.Str.{bytes_eq}
use Rattle.ev_value.specs.declared.value.Val.TheVariants as made
use Rattle.ev_list.specs.Order.{in_order, keyless}
use Rattle.ev_list.specs.declared.order.Keyed.{Keyed}
use Rattle.core_ir.specs.declared.path.PtrId.{PtrId}
use Rattle.core_ir.specs.declared.path.TypeId.{TypeId}
use Rattle.ev_schema.specs.Policies.{by_name}
use Rattle.ev_schema.specs.Types.{listed_pointers}
use Rattle.ev_schema.specs.declared.pointer.PtrInfo.{PtrInfo}
use Rattle.ev_schema.specs.declared.schema.Schema.{Schema}
use Rattle.ev_schema.specs.declared.types.TypeInfo.{TypeInfo}

-- the first type that has a name; the first type of the list has the number k
abbrev pub type_from : ℕ → List TypeInfo → List ℕ → Option TypeId
type_from k [] name = None
type_from k (info ∷ more) name = if bytes_eq info.name name then Some (record { 0 = k }) else type_from (suc k) more name

-- the type that has a name, abstract or not
abbrev pub type_named : List TypeInfo → List ℕ → Option TypeId
type_named types name = type_from 0 types name

-- the name of a pointer, or the empty one where there is no such pointer
abbrev pub name_of : Option PtrInfo → List ℕ
name_of None = []
name_of (Some info) = info.name

-- pointers with their names as keys
abbrev pub named_pointers : List PtrInfo → List PtrId → List (Keyed PtrId)
named_pointers infos [] = []
named_pointers infos (p ∷ more) = record { keys = Some (made.Str (name_of (slice_get infos p.0))) ∷ []; value = p } ∷ named_pointers infos more

-- the pointers of a type but for `id`, in byte order of their names
abbrev pub pointers_in_order : Schema → TypeId → List PtrId
pointers_in_order schema type = keyless (in_order by_name (named_pointers schema.pointers (listed_pointers schema.types type)))
