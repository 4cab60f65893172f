-- How the places of the types grow by those of one more object.
use Rattle.std.specs.Prelude.{ℕ, ◌-◌, ◌==◌, Bool, false, List, [], ◌∷◌, ◌++◌, length, Option, Some, None, slice_get, slice_set, fold, if◌then◌else◌}
use Rattle.core_ir.specs.declared.path.TypeId.{TypeId}
use Rattle.ev_schema.specs.Types.{ancestors}
use Rattle.ev_schema.specs.declared.types.TypeInfo.{TypeInfo}
use Rattle.db_store.specs.declared.object.Object.{Object}

-- whether a place is this one
abbrev pub is_place : ℕ → Option ℕ → Bool
is_place place None = false
is_place place (Some other) = other == place

-- whether the last of some places is this one
abbrev pub is_last_place : ℕ → List ℕ → Bool
is_last_place place places = is_place place (slice_get places (length places - 1))

-- the places of each type, of which one type's are given, with one more place behind these unless it is their last
abbrev pub with_place_behind : ℕ → List (List ℕ) → TypeId → Option (List ℕ) → List (List ℕ)
with_place_behind place lists t None = lists
with_place_behind place lists t (Some places) = if is_last_place place places then lists else slice_set lists t.0 (places ++ place ∷ [])

-- the places of each type with one more behind those of one type, unless it is their last
abbrev pub with_place : ℕ → List (List ℕ) → TypeId → List (List ℕ)
with_place place lists t = with_place_behind place lists t (slice_get lists t.0)

-- the same for each of some types, one after the other
abbrev pub with_places : ℕ → List (List ℕ) → List TypeId → List (List ℕ)
with_places place lists ts = fold (with_place place) lists ts

-- the places of each type with that of an object behind those of its type and of those that it extends
abbrev pub with_object : List TypeInfo → ℕ → List (List ℕ) → Object → List (List ℕ)
with_object types place lists o = with_places place (with_place place lists o.ty) (ancestors types o.ty)
