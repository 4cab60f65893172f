-- The rows of the tables.
use Rattle.std.specs.Prelude.{ℕ, Bool, true, false, List, [], ◌∷◌, map, flat_map, filter, Option, Some, None, slice_get, if◌then◌else◌}
use Rattle.std.specs.Str.{bytes_eq}
use Rattle.ev_value.specs.declared.value.ScalarTy.{ScalarTy}
use Rattle.ev_value.specs.declared.value.Val.{Val}
use Rattle.ev_value.specs.declared.value.Val.TheVariants as made
use Rattle.core_ir.specs.declared.path.PtrId.{PtrId}
use Rattle.core_ir.specs.declared.path.TypeId.{TypeId}
use Rattle.core_ir.specs.declared.ty.Ty as ty
use Rattle.ev_schema.specs.declared.pointer.Body.{Body}
use Rattle.ev_schema.specs.declared.pointer.Body.TheVariants as body
use Rattle.ev_schema.specs.declared.pointer.LinkProperty.{LinkProperty}
use Rattle.ev_schema.specs.declared.pointer.PtrInfo.{PtrInfo}
use Rattle.ev_schema.specs.declared.schema.Schema.{Schema}
use Rattle.ev_schema.specs.Types.{is_subtype}
use Rattle.db_store.specs.declared.object.LinkValue.{LinkValue}
use Rattle.db_store.specs.declared.object.Object.{Object}
use Rattle.db_store.specs.declared.object.Target.{Target}
use Rattle.db_store.specs.Objects.{values_at, targets_at}
use Rattle.sql_table.specs.declared.cell.Cell.{Cell, Null, Val as CellOf}
use Rattle.sql_encode.specs.declared.source.Source.{Source}
use Rattle.sql_encode.specs.declared.source.Source.TheVariants as source
use Rattle.core_ir.specs.Card.{is_many}
use Rattle.ev_schema.specs.Named.{pointers_in_order}
use Rattle.sql_encode.specs.Sources.{cell_type}

-- an id as a cell
abbrev pub id_cell : ℕ → Cell
id_cell id = CellOf (made.Id id)

-- the value of the property with a name; null where there is none
abbrev pub property_cell : List LinkValue → List ℕ → Cell
property_cell [] n = Null
property_cell (v ∷ more) n = if bytes_eq v.name n then CellOf v.value else property_cell more n

-- the values of a link's properties at a target, or nulls where there is no target
abbrev pub property_cell_at : Option Target → List ℕ → Cell
property_cell_at None n = Null
property_cell_at (Some t) n = property_cell t.properties n

abbrev pub property_cells : Option Target → List LinkProperty → List Cell
property_cells target ps = map (λ (p : LinkProperty). property_cell_at target p.name) ps

abbrev pub first_target : List Target → Option Target
first_target [] = None
first_target (t ∷ more) = Some t

abbrev pub value_cell : List Val → Cell
value_cell [] = Null
value_cell (v ∷ more) = CellOf v

abbrev pub target_cell : Option Target → Cell
target_cell None = Null
target_cell (Some t) = id_cell t.id

-- whether a pointer is a stored link
abbrev pub is_link : Body → Bool
is_link (body.Stored (ty.Object t)) = true
is_link _ = false

-- the cell of a pointer with at most one value: the value, the target's id, or null
abbrev pub single_cell : Body → Object → PtrId → Cell
single_cell b o p = if is_link b then target_cell (first_target (targets_at o p)) else value_cell (values_at o p)

abbrev pub cells_of_type : PtrInfo → Object → PtrId → Option ScalarTy → List Cell
cells_of_type info o p None = []
cells_of_type info o p (Some t) = single_cell info.body o p ∷ property_cells (first_target (targets_at o p)) info.link_props

-- the cells of a pointer in the tables of types
abbrev pub pointer_cells : Option PtrInfo → Object → PtrId → List Cell
pointer_cells None o p = []
pointer_cells (Some info) o p = if is_many info.card then [] else cells_of_type info o p (cell_type info.body)

-- the row of an object in the table of a type with these pointers
abbrev pub type_row : Schema → List PtrId → Object → List Cell
type_row s ps o = id_cell o.id ∷ flat_map (λ (p : PtrId). pointer_cells (slice_get s.pointers p.0) o p) ps

-- the objects of a type and of those that extend it, in order of id
abbrev pub type_rows : Schema → List Object → TypeId → List (List Cell)
type_rows s os t = map (type_row s (pointers_in_order s t)) (filter (λ (o : Object). is_subtype s.types o.ty t) os)

-- the rows of an object in the table of a pointer with many values: one for each target, in order of id, or for each value in its place
abbrev pub target_rows : PtrInfo → Object → List Target → List (List Cell)
target_rows info o ts = map (λ (t : Target). id_cell o.id ∷ id_cell t.id ∷ property_cells (Some t) info.link_props) ts

abbrev pub value_rows : PtrInfo → Object → List Val → List (List Cell)
value_rows info o vs = map (λ (v : Val). id_cell o.id ∷ CellOf v ∷ property_cells None info.link_props) vs

abbrev pub object_rows : PtrInfo → PtrId → Object → List (List Cell)
object_rows info p o = if is_link info.body then target_rows info o (targets_at o p) else value_rows info o (values_at o p)

abbrev pub pointer_rows : List Object → Option PtrInfo → PtrId → List (List Cell)
pointer_rows os None p = []
pointer_rows os (Some info) p = flat_map (object_rows info p) os

-- The rows of a table of some objects, by source, and for a pointer by target or by place.
abbrev pub rows_of : Schema → List Object → Source → List (List Cell)
rows_of s os (source.Type t) = type_rows s os t
rows_of s os (source.Pointer p) = pointer_rows os (slice_get s.pointers p.0) p
