-- The objects of a type.
use Rattle.std.specs.Prelude.{◌≡◌, ℕ, zero, suc, List, [], ◌∷◌, ◌++◌, length, map, Some, slice_get, if◌then◌else◌}
use Rattle.std.specs.List.{filter}
use Rattle.core_ir.specs.declared.path.TypeId.{TypeId}
use Rattle.ev_schema.specs.Types.{is_subtype}
use Rattle.ev_schema.specs.declared.types.TypeInfo.{TypeInfo}
use Rattle.db_store.specs.declared.object.Object.{Object}

-- The places of the objects that are of a type or of one that extends it, in the list's order; the first object has the place k.
abbrev pub extent_from : List TypeInfo → TypeId → ℕ → List Object → List ℕ
extent_from types t k [] = []
extent_from types t k (o ∷ more) = if is_subtype types o.ty t then k ∷ extent_from types t (suc k) more else extent_from types t (suc k) more

-- the places, from 0, of the objects that are of a type or of one that extends it, in the list's order
abbrev pub extent_places : List TypeInfo → TypeId → List Object → List ℕ
extent_places types t os = extent_from types t 0 os

-- At these places stand the objects of the type and of those that extend it, each once and in the list's order, and no others.
abbrev pub AreExtentPlaces : List TypeInfo → TypeId → List Object → List ℕ → Type 0
AreExtentPlaces types t os places = map (slice_get os) places ≡ map Some (filter (λ (o : Object). is_subtype types o.ty t) os)

-- the places of the objects of each of the first so many types
abbrev pub extents_of : List TypeInfo → List Object → ℕ → List (List ℕ)
extents_of types os zero = []
extents_of types os (suc k) = extents_of types os k ++ extent_places types (record { 0 = k }) os ∷ []

-- the places of the objects of each type
abbrev pub extents : List TypeInfo → List Object → List (List ℕ)
extents types os = extents_of types os (length types)
