-- What contracts see of a store.
use Rattle.std.specs.Prelude.{◌≡◌, ℕ, List, [], Option, Some, None, slice_get}
use Rattle.core_ir.specs.declared.path.TypeId.{TypeId}
use Rattle.ev_schema.specs.declared.types.TypeInfo.{TypeInfo}
use Rattle.db_store.specs.declared.object.Object.{Object}
use Rattle.db_check.specs.Extent.{extents}

-- the objects of a store, and for each type the places of its objects
pub record StoreView : Type 0 where
  -- in order of id
  pub objects : List Object
  -- by the number of the type: the places of its objects and of those that extend it
  pub extents : List (List ℕ)

-- the places that are kept for a type, and none where none are kept
abbrev pub kept_if_known : Option (List ℕ) → List ℕ
kept_if_known (Some places) = places
kept_if_known None = []

-- the places that a store keeps for a type
abbrev pub kept_places : StoreView → TypeId → List ℕ
kept_places st t = kept_if_known (slice_get st.extents t.0)

-- the places that a store keeps are those that these types give
abbrev pub IsOver : List TypeInfo → StoreView → Type 0
IsOver types st = st.extents ≡ extents types st.objects
