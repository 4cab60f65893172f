-- When a list of objects fits a schema.
use Rattle.std.specs.Prelude.{◌≡◌, ℕ, nat_lt, Bool, true, false, List, [], ◌∷◌, length, flat_map, filter, Option, Some, None, slice_get, ◌≢◌}
use Rattle.std.specs.List.{list_any, Contains}
use Rattle.std.specs.Cmp.Lexicographic.{slice_cmp}
use Rattle.std.specs.Ordering.{nat_cmp, is_lt}
use Rattle.ev_list.specs.Occurrence.{has_repeat}
use Rattle.core_ir.specs.Card.{Within}
use Rattle.core_ir.specs.declared.card.Card.{Card}
use Rattle.core_ir.specs.declared.path.PtrId.{PtrId}
use Rattle.core_ir.specs.declared.path.TypeId.{TypeId}
use Rattle.core_ir.specs.declared.ty.Ty.{Ty}
use Rattle.core_ir.specs.declared.ty.Ty as ty
use Rattle.ev_schema.specs.declared.pointer.Body.{Body}
use Rattle.ev_schema.specs.declared.pointer.Body.TheVariants as body
use Rattle.ev_schema.specs.declared.pointer.Limit.{Limit}
use Rattle.ev_schema.specs.declared.pointer.Limit.TheVariants as limit
use Rattle.ev_schema.specs.declared.pointer.LinkProperty.{LinkProperty}
use Rattle.ev_schema.specs.declared.pointer.PtrInfo.{PtrInfo}
use Rattle.ev_schema.specs.declared.schema.Schema.{Schema}
use Rattle.ev_schema.specs.declared.types.TypeInfo.{TypeInfo}
use Rattle.ev_schema.specs.Pointers.{weakened}
use Rattle.ev_schema.specs.Types.{is_subtype, listed_pointers}
use Rattle.db_store.specs.declared.object.Entry.{Entry}
use Rattle.db_store.specs.declared.object.LinkValue.{LinkValue}
use Rattle.db_store.specs.declared.object.Object.{Object}
use Rattle.db_store.specs.declared.object.PtrValue.{PtrValue}
use Rattle.db_store.specs.declared.object.PtrValue.TheVariants as value
use Rattle.db_store.specs.declared.object.Target.{Target}
use Rattle.db_store.specs.Limits.{has_type, is_array_of, same, meets}
use Rattle.db_store.specs.Objects.{find, led_to, items_at}

-- P of each element
abbrev pub Each : {A : Type 0} → (A → Type 0) → List A → Type 0
Each P [] = Unit {0}
Each P (x ∷ more) = P x × Each P more

-- each element stands before all that follow it, so none stands twice
abbrev pub Ascend : {A : Type 0} → (A → A → Bool) → List A → Type 0
Ascend before [] = Unit {0}
Ascend before (x ∷ more) = Each (λ y. before x y ≡ true) more × Ascend before more

-- texts in byte order
abbrev pub text_before : List ℕ → List ℕ → Bool
text_before a b = is_lt (slice_cmp nat_cmp a b)

-- the type that a stored pointer leads to
abbrev pub stored_type : Body → Option Ty
stored_type (body.Stored t) = Some t
stored_type _ = None

-- the name of a pointer, as far as there is one
abbrev pub name_of : Option PtrInfo → List ℕ
name_of None = []
name_of (Some info) = info.name

abbrev pub is_exclusive : Limit → Bool
is_exclusive limit.Exclusive = true
is_exclusive _ = false

module _ (s : Schema) where
  -- the value of a link's property is declared, and of its type
  abbrev pub FitsProperty : List LinkProperty → LinkValue → Type 0
  FitsProperty declared v = (p : LinkProperty) × Contains declared p × (p.name ≡ v.name) × (has_type p.ty v.value ≡ true)

  -- a target is there and of the link's type or one that extends it, and its properties fit
  abbrev pub FitsTarget : List Object → PtrInfo → TypeId → Target → Type 0
  FitsTarget os info t target =
      ((o : Object) × (find os target.id ≡ Some o) × (is_subtype s.types o.ty t ≡ true))
      × Ascend (λ a b. text_before a.name b.name) target.properties
      × Each (FitsProperty info.link_props) target.properties

  -- What is stored of a pointer is of its type, and each value meets each of the pointer's constraints.
  abbrev pub FitsValue : List Object → PtrInfo → Ty → PtrValue → Type 0
  FitsValue os info (ty.Scalar t) (value.Vals vs) = Each (λ v. (has_type t v ≡ true) × Each (λ l. meets l v ≡ true) info.limits) vs
  FitsValue os info (ty.Array t) (value.Vals vs) = Each (λ v. (is_array_of t v ≡ true) × Each (λ l. meets l v ≡ true) info.limits) vs
  FitsValue os info (ty.Object t) (value.Links ts) = Ascend (λ a b. nat_lt a.id b.id) ts × Each (FitsTarget os info t) ts
  FitsValue os info _ _ = ⊥

  -- An entry is of a stored pointer of the object's type, and not empty.
  abbrev pub FitsEntry : List Object → TypeId → Entry → Type 0
  FitsEntry os t e =
      Contains (listed_pointers s.types t) e.pointer
      × ((info : PtrInfo) × (slice_get s.pointers e.pointer.0 ≡ Some info) × ((u : Ty) × (stored_type info.body ≡ Some u) × FitsValue os info u e.value))
      × (led_to e.value ≢ [])

  abbrev pub entry_before : Entry → Entry → Bool
  entry_before a b = text_before (name_of (slice_get s.pointers a.pointer.0)) (name_of (slice_get s.pointers b.pointer.0))

-- An object fits, where each stored pointer has as many values as `bounds` says.
pub record FitsObject (s : Schema) (bounds : PtrInfo → Card) (os : List Object) (o : Object) : Type 0 where
  -- its type is known and not abstract
  pub known : (info : TypeInfo) × (slice_get s.types o.ty.0 ≡ Some info) × (info.is_abstract ≡ false)
  -- its entries stand in byte order of the pointers' names, each pointer once
  pub in_order : Ascend (entry_before s) o.values
  pub entries : Each (FitsEntry s os o.ty) o.values
  pub within : (p : PtrId) (info : PtrInfo) (u : Ty) → Contains (listed_pointers s.types o.ty) p → slice_get s.pointers p.0 ≡ Some info → stored_type info.body ≡ Some u → Within (bounds info) (length (items_at o p))

-- A list of objects fits, where each stored pointer has as many values as `bounds` says.
pub record FitsBy (s : Schema) (bounds : PtrInfo → Card) (os : List Object) : Type 0 where
  -- in order of id, so that no id stands twice
  pub in_order : Ascend (λ (a b : Object). nat_lt a.id b.id) os
  pub each : Each (FitsObject s bounds os) os
  -- of an exclusive pointer no value stands twice over all objects of the declaring type and those that extend it
  pub once : (p : PtrId) (info : PtrInfo) → slice_get s.pointers p.0 ≡ Some info → list_any is_exclusive info.limits ≡ true →
      has_repeat same (flat_map (λ o. items_at o p) (filter (λ (o : Object). is_subtype s.types o.ty info.origin) os)) ≡ false

-- The objects fit the schema, each stored pointer within its declared bounds.
abbrev pub Fits : Schema → List Object → Type 0
Fits s os = FitsBy s (λ info. info.card) os

-- The same within the bounds that a caller sees, of whom rules may hide targets.
abbrev pub WeakFits : Schema → List Object → Type 0
WeakFits s os = FitsBy s (weakened s) os
