-- What the maps of an index find.
use Rattle.std.specs.Prelude.{◌≡◌, ℕ, List, map, Option, Some, None, slice_get}
use Rattle.std.specs.BTreeMap as tree
use Rattle.std.specs.Cmp.Lexicographic.{slice_cmp}
use Rattle.std.specs.Ordering.{nat_cmp}
use Rattle.std.specs.Str.{bytes_eq}
use Rattle.core_ir.specs.declared.path.PtrId.{PtrId}
use Rattle.core_ir.specs.declared.path.TypeId.{TypeId}
use Rattle.ev_index.specs.First.{with_one}
use Rattle.ev_index.specs.Globals.{global_type}
use Rattle.ev_index.specs.declared.by_name.ByName.{ByName}
use Rattle.ev_index.specs.declared.places.Places.{Places}
use Rattle.ev_schema.specs.Named.{type_named}
use Rattle.ev_schema.specs.Numbered.{IsNumbered}
use Rattle.ev_schema.specs.Pointers.{computed_among, first_named}
use Rattle.ev_schema.specs.declared.pointer.PtrInfo.{PtrInfo}
use Rattle.ev_schema.specs.declared.schema.Schema.{Schema}
use Rattle.ev_schema.specs.declared.types.TypeInfo.{TypeInfo}
use Rattle.ev_value.specs.declared.value.ScalarTy.{ScalarTy}

-- what a map finds by a name
abbrev pub by_name : {V : Type 0} → ByName V → List ℕ → Option V
by_name m name = tree.get (slice_cmp nat_cmp) m.found name

-- the place that is kept for the number of a pointer
abbrev pub place_of : Places → ℕ → Option ℕ
place_of m number = tree.get nat_cmp m.found number

-- what stands at a place, if one is given
abbrev pub at_place : {V : Type 0} → List V → Option ℕ → Option V
at_place list None = None
at_place list (Some place) = slice_get list place

-- what is found by names, once a pointer came too, if there is such a pointer
abbrev pub with_pointer : Option PtrInfo → (List ℕ → Option PtrId) → PtrId → List ℕ → Option PtrId
with_pointer None found pointer = found
with_pointer (Some info) found pointer = with_one bytes_eq found info.name pointer

-- a type's own pointers and those of its ancestors, but for `id`, by their names
abbrev pub pointers_of : List PtrInfo → TypeInfo → List ℕ → Option PtrId
pointers_of pointers info name = first_named pointers info.pointers name

-- The maps of an index find in a schema what their names say.
pub record Finds (schema : Schema) (type_names : ByName TypeId) (global_names : ByName ScalarTy) (pointer_names : List (ByName PtrId)) (places : Places) : Type 0 where
  pub numbered : IsNumbered schema
  pub types : by_name type_names ≡ type_named schema.types
  pub globals : by_name global_names ≡ global_type schema.globals
  pub pointers : map by_name pointer_names ≡ map (pointers_of schema.pointers) schema.types
  pub computed : (pointer : PtrId) → at_place schema.computed (place_of places pointer.0) ≡ computed_among schema.computed pointer
