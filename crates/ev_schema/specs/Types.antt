-- What a schema says of types.
use Rattle.std.specs.Prelude.{◌==◌, ◌||◌, Bool, List, [], Option, Some, None, slice_get}
use Rattle.std.specs.List.{list_any}
use Rattle.core_ir.specs.declared.path.PtrId.{PtrId}
use Rattle.core_ir.specs.declared.path.TypeId.{TypeId}
use Rattle.ev_schema.specs.declared.types.TypeInfo.{TypeInfo}

-- what a type extends, as far as there is such a type
abbrev pub ancestors_if_known : Option TypeInfo → List TypeId
ancestors_if_known None = []
ancestors_if_known (Some info) = info.ancestors

-- the types that a type extends, at any distance
abbrev pub ancestors : List TypeInfo → TypeId → List TypeId
ancestors types t = ancestors_if_known (slice_get types t.0)

-- the pointers of a type, as far as there is such a type
abbrev pub pointers_if_known : Option TypeInfo → List PtrId
pointers_if_known None = []
pointers_if_known (Some info) = info.pointers

-- the pointers of a type, those of its ancestors too, but for `id`
abbrev pub listed_pointers : List TypeInfo → TypeId → List PtrId
listed_pointers types t = pointers_if_known (slice_get types t.0)

-- whether two numbers are of one type
abbrev pub same_type : TypeId → TypeId → Bool
same_type a b = a.0 == b.0

-- whether a type is another one, or extends it
abbrev pub is_subtype : List TypeInfo → TypeId → TypeId → Bool
is_subtype types a b = same_type a b || list_any (same_type b) (ancestors types a)
