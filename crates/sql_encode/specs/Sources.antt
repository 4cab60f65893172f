-- What the tables of a schema hold, and their names.
use Rattle.std.specs.Prelude.{ℕ, suc, Bool, true, false, List, [], ◌∷◌, ◌++◌, codes, Option, Some, None, slice_get, if◌then◌else◌}
use Rattle.ev_value.specs.declared.value.ScalarTy.{ScalarTy}
use Rattle.ev_value.specs.declared.value.ScalarTy.TheVariants as scalar
use Rattle.ev_value.specs.declared.value.Val.TheVariants as made
use Rattle.ev_list.specs.Order.{in_order, keyless}
use Rattle.ev_list.specs.declared.order.Keyed.{Keyed}
use Rattle.core_ir.specs.Card.{is_many}
use Rattle.core_ir.specs.declared.path.PtrId.{PtrId}
use Rattle.core_ir.specs.declared.path.TypeId.{TypeId}
use Rattle.core_ir.specs.declared.ty.Ty.{Ty}
use Rattle.core_ir.specs.declared.ty.Ty as ty
use Rattle.ev_schema.specs.declared.pointer.Body.{Body}
use Rattle.ev_schema.specs.declared.pointer.Body.TheVariants as body
use Rattle.ev_schema.specs.declared.pointer.PtrInfo.{PtrInfo}
use Rattle.ev_schema.specs.declared.schema.Schema.{Schema}
use Rattle.ev_schema.specs.declared.types.TypeInfo.{TypeInfo}
use Rattle.ev_schema.specs.Policies.{by_name}
use Rattle.ev_schema.specs.Types.{listed_pointers}
use Rattle.sql_encode.specs.declared.source.Source.{Source}
use Rattle.sql_encode.specs.declared.source.Source.TheVariants as source

-- ---- pointers

-- The type of a stored pointer's cells: that of a property, and of a link a uuid. A pointer of tuples or of arrays has no cells.
abbrev pub cell_type_of : Ty → Option ScalarTy
cell_type_of (ty.Scalar t) = Some t
cell_type_of (ty.Object t) = Some scalar.Uuid
cell_type_of (ty.Tuple' m ps) = None
cell_type_of (ty.Array t) = None

abbrev pub cell_type : Body → Option ScalarTy
cell_type (body.Stored t) = cell_type_of t
cell_type body.Computed = None

-- ---- tables

abbrev pub type_name : Option TypeInfo → List ℕ
type_name None = []
type_name (Some info) = info.name

-- the name of the table of a pointer with many values: that of the declaring type, a point, and its own
abbrev pub pointer_table : Schema → PtrInfo → List ℕ
pointer_table s info = type_name (slice_get s.types info.origin.0) ++ codes "." ++ info.name

-- a table for each type, of which the first has the number k
abbrev pub type_sources : ℕ → List TypeInfo → List (Keyed Source)
type_sources k [] = []
type_sources k (info ∷ more) = record { keys = Some (made.Str info.name) ∷ []; value = source.Type (record { 0 = k }) } ∷ type_sources (suc k) more

-- whether a pointer has a table: it is stored, and may have many values
abbrev pub has_type : Option ScalarTy → Bool
has_type None = false
has_type (Some t) = true

abbrev pub has_table : PtrInfo → Bool
has_table info = if is_many info.card then has_type (cell_type info.body) else false

-- a table for each such pointer, of which the first has the number k
abbrev pub pointer_sources : Schema → ℕ → List PtrInfo → List (Keyed Source)
pointer_sources s k [] = []
pointer_sources s k (info ∷ more) =
    if has_table info
    then record { keys = Some (made.Str (pointer_table s info)) ∷ []; value = source.Pointer (record { 0 = k }) } ∷ pointer_sources s (suc k) more
    else pointer_sources s (suc k) more

-- what the tables hold, in byte order of their names
abbrev pub sources : Schema → List Source
sources s = keyless (in_order by_name (type_sources 0 s.types ++ pointer_sources s 0 s.pointers))
