-- The types of a tree are kinds of it, and so what it gives is of its type.
use Rattle.std.specs.Prelude.{ℕ, List, [], ◌∷◌, Option, Some, None}
use Rattle.ev_value.specs.Item.{EachValue}
use Rattle.ev_value.specs.declared.args.Args.{Args}
use Rattle.core_ir.specs.declared.path.TypeId.{TypeId}
use Rattle.core_ir.specs.declared.phase.Core.{Core}
use Rattle.core_ir.specs.declared.phase.Typed.{Typed}
use Rattle.core_ir.specs.declared.ty.Ty.{Ty}
use Rattle.core_ir.specs.declared.ty.Ty.TheVariants.{Object}
use Rattle.core_ir.specs.Path.{subject}
use Rattle.ev_schema.specs.declared.schema.Schema.{Schema}
use Rattle.db_store.specs.Fits.{Fits}
use Rattle.db_store.specs.declared.object.Object.{Object as Stored}
use Rattle.eql_sem.specs.Parts.{values_in, items_in}
use Rattle.eql_sem.specs.declared.binding.Bound.{Bound}
use Rattle.eql_sem.specs.declared.binding.Name.{Name}
use Rattle.eql_sem.specs.declared.binding.Name.TheVariants as name
use Rattle.eql_agree.specs.Agreeing.{InBound, InItem}
use Rattle.eql_agree.specs.Kinded.{HasAsScope}
use Rattle.eql_agree.specs.Kinds.{Along, Of}
use Rattle.eql_world.specs.StoreWorld.{world_of}
use Rattle.store_agree.specs.Typed.{typing, types as types_among, ComputedTyped}
use Rattle.type_infer.specs.Laws.{HasTypes}
use Rattle.type_agree.specs.Noted.{notes_of_tree}
use Rattle.type_agree.specs.Premises.{IsTypedSchema, HasOneTypeEach, ArgumentsSuit}

-- the names that stand before a tree: of an expression of a schema its subject
abbrev pub names_before : Option TypeId → List Name
names_before None = []
names_before (Some a) = name.Prefix (subject 0) ∷ []

-- the types of these names
abbrev pub types_before : Option TypeId → List Ty
types_before None = []
types_before (Some a) = Object a ∷ []

-- A tree with types has the type of its items as its kind.
pub record TypesAreKinds : Type 0 where
  pub of_trees : (s : Schema) (args : Args) (types : ℕ → Option Ty) (core : Core) (typed : Typed) → HasTypes s core typed
      → IsTypedSchema s → HasOneTypeEach types (notes_of_tree typed.core) → ArgumentsSuit s args (notes_of_tree typed.core)
      → HasAsScope (typing s args) typed.core.root.body (names_before typed.core.subject) (types_before typed.core.subject) typed.ty

-- What a tree with types gives over objects that fit has its type, and its forms are made of values of it.
pub record TypedTreesGiveTheirTypes : Type 0 where
  pub of_values : (s : Schema) (os : List Stored) (args : Args) (types : ℕ → Option Ty) (core : Core) (typed : Typed) → HasTypes s core typed
      → IsTypedSchema s → HasOneTypeEach types (notes_of_tree typed.core) → ArgumentsSuit s args (notes_of_tree typed.core) → Fits s os → ComputedTyped s args s.computed
      → (b : List Bound) → Along (InBound (types_among s os args)) (types_before typed.core.subject) b
      → EachValue (Of (types_among s os args) typed.ty) (values_in (world_of s os args) typed.core.root.body (names_before typed.core.subject) b)
  pub of_items : (s : Schema) (os : List Stored) (args : Args) (types : ℕ → Option Ty) (core : Core) (typed : Typed) → HasTypes s core typed
      → IsTypedSchema s → HasOneTypeEach types (notes_of_tree typed.core) → ArgumentsSuit s args (notes_of_tree typed.core) → Fits s os → ComputedTyped s args s.computed
      → (b : List Bound) → Along (InBound (types_among s os args)) (types_before typed.core.subject) b
      → EachValue (InItem (types_among s os args) typed.ty) (items_in (world_of s os args) typed.core.root.body (names_before typed.core.subject) b)
