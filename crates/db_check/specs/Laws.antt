-- What holds of a store that breaks no rule.
use Rattle.std.specs.Prelude.{◌≡◌, ◌≢◌, ℕ, nat_lt, Bool, true, false, List, [], ◌∷◌, flat_map, filter, Some, Ok, slice_get}
use Rattle.std.specs.List.{list_any}
use Rattle.ev_list.specs.Occurrence.{has_repeat}
use Rattle.core_ir.specs.declared.card.Card.TheVariants as card
use Rattle.core_ir.specs.declared.path.PtrId.{PtrId}
use Rattle.core_ir.specs.declared.path.TypeId.{TypeId}
use Rattle.core_ir.specs.declared.ty.Ty.{Ty}
use Rattle.core_ir.specs.declared.ty.Ty as ty
use Rattle.ev_schema.specs.Types.{is_subtype, listed_pointers}
use Rattle.ev_schema.specs.declared.pointer.LinkProperty.{LinkProperty}
use Rattle.ev_schema.specs.declared.pointer.PtrInfo.{PtrInfo}
use Rattle.ev_schema.specs.declared.schema.Schema.{Schema}
use Rattle.db_draft.specs.declared.draft.ObjectDraft.{ObjectDraft}
use Rattle.db_store.specs.Fits.{Each, Ascend, is_exclusive, text_before, name_of, stored_type, Fits}
use Rattle.db_store.specs.Limits.{same}
use Rattle.db_store.specs.Objects.{items_at}
use Rattle.db_store.specs.declared.object.Object.{Object}
use Rattle.db_check.specs.Check.{checked}
use Rattle.db_check.specs.Store.{IsOver}
use Rattle.db_check.specs.declared.store.Store.{Store}

-- the objects of a store stand in order of id, so no id stands twice
abbrev pub StoresStandInOrder : Type 0
StoresStandInOrder = (s : Schema) (ds : List ObjectDraft) (st : Store) → checked s ds ≡ Ok st → Ascend (λ (a b : Object). nat_lt a.id b.id) st.objects

-- of an exclusive pointer no value stands twice over all objects of the declaring type and those that extend it
abbrev pub ExclusiveValuesStandOnce : Type 0
ExclusiveValuesStandOnce = (s : Schema) (ds : List ObjectDraft) (st : Store) → checked s ds ≡ Ok st
    → (p : PtrId) (info : PtrInfo) → slice_get s.pointers p.0 ≡ Some info → list_any is_exclusive info.limits ≡ true
    → has_repeat same (flat_map (λ o. items_at o p) (filter (λ (o : Object). is_subtype s.types o.ty info.origin) st.objects)) ≡ false

-- a store keeps for each type of its schema the places of its objects and of those that extend it
abbrev pub StoresKeepPlaces : Type 0
StoresKeepPlaces = (s : Schema) (ds : List ObjectDraft) (st : Store) → checked s ds ≡ Ok st → IsOver s.types st

-- no two elements of a list have one name
abbrev pub NamesDiffer : {A : Type 0} → (A → List ℕ) → List A → Type 0
NamesDiffer name [] = Unit {0}
NamesDiffer name (x ∷ more) = Each (λ y. name x ≢ name y) more × NamesDiffer name more

-- a scalar type or an object type
abbrev pub is_storable : Ty → Bool
is_storable (ty.Scalar t) = true
is_storable (ty.Object t) = true
is_storable (ty.Tuple' n ts) = false
is_storable (ty.Array t) = false

-- What a store asks of its schema.
pub record IsWellFormedSchema (s : Schema) : Type 0 where
  -- no two pointers of a type have one name
  pub names : (t : TypeId) → NamesDiffer (λ (p : PtrId). name_of (slice_get s.pointers p.0)) (listed_pointers s.types t)
  -- a stored pointer is of a scalar type or an object type, and may have a value
  pub stored : (p : PtrId) (info : PtrInfo) (u : Ty) → slice_get s.pointers p.0 ≡ Some info → stored_type info.body ≡ Some u → (is_storable u ≡ true) × (info.card ≢ card.Empty)
  -- the properties of a link stand in byte order of their names, so no name stands twice
  pub properties : (p : PtrId) (info : PtrInfo) → slice_get s.pointers p.0 ≡ Some info → Ascend (λ (a b : LinkProperty). text_before a.name b.name) info.link_props

-- the objects of a store fit the schema
abbrev pub StoresFit : Type 0
StoresFit = (s : Schema) → IsWellFormedSchema s → (ds : List ObjectDraft) (st : Store) → checked s ds ≡ Ok st → Fits s st.objects
