-- What a schema says of pointers.
use Rattle.std.specs.Prelude.{ℕ, suc, ◌-◌, ◌==◌, Bool, false, List, [], ◌∷◌, length, Option, Some, None, slice_get, if◌then◌else◌}
use Rattle.std.specs.Str.{bytes_eq}
use Rattle.core_ir.specs.declared.card.Card.{Card}
use Rattle.core_ir.specs.declared.path.PtrId.{PtrId}
use Rattle.core_ir.specs.declared.path.TypeId.{TypeId}
use Rattle.core_ir.specs.declared.ty.Ty as ty
use Rattle.core_ir.specs.Card.{most, card_with}
use Rattle.ev_schema.specs.declared.pointer.Body.{Body}
use Rattle.ev_schema.specs.declared.pointer.Body.TheVariants as body
use Rattle.ev_schema.specs.declared.pointer.Computed.{Computed}
use Rattle.ev_schema.specs.declared.pointer.PtrInfo.{PtrInfo}
use Rattle.ev_schema.specs.declared.schema.Schema.{Schema}
use Rattle.ev_schema.specs.Types.{listed_pointers}
use Rattle.ev_schema.specs.Policies.{governed_below}

-- `id`: the last pointer
abbrev pub id_pointer : List PtrInfo → PtrId
id_pointer pointers = record { 0 = length pointers - 1 }

-- whether a pointer is `id`
abbrev pub is_id : List PtrInfo → PtrId → Bool
is_id pointers p = suc p.0 == length pointers

-- whether there is such a pointer and it has a name
abbrev pub has_name : Option PtrInfo → List ℕ → Bool
has_name None n = false
has_name (Some info) n = bytes_eq info.name n

-- the first of some pointers that has a name
abbrev pub first_named : List PtrInfo → List PtrId → List ℕ → Option PtrId
first_named pointers [] n = None
first_named pointers (p ∷ more) n = if has_name (slice_get pointers p.0) n then Some p else first_named pointers more n

-- `id` where that is the name, if there are pointers at all
abbrev pub id_named : List PtrInfo → List ℕ → Option PtrId
id_named pointers n = first_named pointers (id_pointer pointers ∷ []) n

-- what is found, or else `id` where that is the name
abbrev pub or_id : Option PtrId → Option PtrId → Option PtrId
or_id (Some p) other = Some p
or_id None other = other

-- the pointer of a type that has a name, if there is one
abbrev pub pointer_named : Schema → TypeId → List ℕ → Option PtrId
pointer_named s t n = or_id (first_named s.pointers (listed_pointers s.types t) n) (id_named s.pointers n)

-- the expression of a computed pointer, once it is known
abbrev pub computed_among : List Computed → PtrId → Option Computed
computed_among [] p = None
computed_among (c ∷ more) p = if c.pointer.0 == p.0 then Some c else computed_among more p

-- the type whose objects a stored link leads to, if it is one
abbrev pub target_of : Body → Option TypeId
target_of (body.Stored (ty.Object t)) = Some t
target_of _ = None

-- Bounds as a caller sees them: where rules may hide a link's targets, it may have none.
abbrev pub weakened_by : Schema → Card → Option TypeId → Card
weakened_by s c None = c
weakened_by s c (Some t) = if governed_below s.types s.policies t (length s.types) then card_with 0 (most c) else c

-- the bounds of a pointer as a caller sees them
abbrev pub weakened : Schema → PtrInfo → Card
weakened s info = weakened_by s info.card (target_of info.body)
