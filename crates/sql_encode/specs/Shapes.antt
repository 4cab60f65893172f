-- The tables of a schema: their columns.
use Rattle.std.specs.Prelude.{ℕ, List, [], ◌∷◌, ◌++◌, codes, map, flat_map, Option, Some, None, slice_get, if◌then◌else◌}
use Rattle.ev_value.specs.declared.value.ScalarTy.{ScalarTy}
use Rattle.ev_value.specs.declared.value.ScalarTy.TheVariants as scalar
use Rattle.ev_value.specs.declared.value.Val.TheVariants as made
use Rattle.ev_list.specs.Order.{in_order, keyless}
use Rattle.ev_list.specs.declared.order.Keyed.{Keyed}
use Rattle.core_ir.specs.declared.path.PtrId.{PtrId}
use Rattle.core_ir.specs.declared.path.TypeId.{TypeId}
use Rattle.ev_schema.specs.declared.pointer.LinkProperty.{LinkProperty}
use Rattle.ev_schema.specs.declared.pointer.PtrInfo.{PtrInfo}
use Rattle.ev_schema.specs.declared.schema.Schema.{Schema}
use Rattle.ev_schema.specs.declared.types.GlobalInfo.{GlobalInfo}
use Rattle.ev_schema.specs.Policies.{by_name}
use Rattle.sql_ast.specs.declared.catalog.Catalog.{Catalog}
use Rattle.sql_ast.specs.declared.catalog.TableShape.{TableShape}
use Rattle.sql_ast.specs.declared.catalog.Typed.{Typed}
use Rattle.sql_ast.specs.declared.ty.SqlTy.TheVariants as sql
use Rattle.sql_encode.specs.declared.source.Source.{Source}
use Rattle.sql_encode.specs.declared.source.Source.TheVariants as source
use Rattle.core_ir.specs.Card.{is_many}
use Rattle.ev_schema.specs.Named.{pointers_in_order}
use Rattle.sql_encode.specs.Sources.{cell_type, type_name, pointer_table, sources}

abbrev pub column : List ℕ → ScalarTy → Typed
column name t = record { name = name; ty = sql.Scalar t }

-- the columns of a link's properties, each with something in front of its name
abbrev pub property_columns : List ℕ → List LinkProperty → List Typed
property_columns front ps = map (λ (p : LinkProperty). column (front ++ codes "@" ++ p.name) p.ty) ps

abbrev pub columns_of_type : PtrInfo → Option ScalarTy → List Typed
columns_of_type info None = []
columns_of_type info (Some t) = column info.name t ∷ property_columns info.name info.link_props

-- the columns of a pointer in the tables of types: those of a stored one that has at most one value
abbrev pub pointer_columns : Option PtrInfo → List Typed
pointer_columns None = []
pointer_columns (Some info) = if is_many info.card then [] else columns_of_type info (cell_type info.body)

abbrev pub type_columns : Schema → List PtrId → List Typed
type_columns s ps = flat_map (λ (p : PtrId). pointer_columns (slice_get s.pointers p.0)) ps

-- the table of a type: `id`, and the pointers in byte order of their names
abbrev pub type_shape : Schema → TypeId → TableShape
type_shape s t = record { name = type_name (slice_get s.types t.0); columns = column (codes "id") scalar.Uuid ∷ type_columns s (pointers_in_order s t) }

abbrev pub target_columns : Option ScalarTy → List Typed
target_columns None = []
target_columns (Some t) = column (codes "target") t ∷ []

-- the table of a pointer with many values: the source, the target, and a link's properties
abbrev pub pointer_shape_if_known : Schema → Option PtrInfo → TableShape
pointer_shape_if_known s None = record { name = []; columns = [] }
pointer_shape_if_known s (Some info) = record {
  name = pointer_table s info;
  columns = column (codes "source") scalar.Uuid ∷ (target_columns (cell_type info.body) ++ property_columns [] info.link_props);
}

abbrev pub shape_of : Schema → Source → TableShape
shape_of s (source.Type t) = type_shape s t
shape_of s (source.Pointer p) = pointer_shape_if_known s (slice_get s.pointers p.0)

-- globals with their names as keys
abbrev pub named_globals : List GlobalInfo → List (Keyed Typed)
named_globals [] = []
named_globals (g ∷ more) = record { keys = Some (made.Str g.name) ∷ []; value = column g.name g.ty } ∷ named_globals more

-- The tables and the globals of a schema, each in byte order of their names.
abbrev pub catalog_of : Schema → Catalog
catalog_of s = record { tables = map (shape_of s) (sources s); globals = keyless (in_order by_name (named_globals s.globals)) }
