-- What the types of a tree are kinds by: what is asked of the schema, of the numbers of the tree, and of the arguments.
use Rattle.std.specs.Prelude.{◌≡◌, ◌≢◌, IsTrue, ℕ, ◌==◌, Bool, List, Option, Some, AllPairs, slice_get}
use Rattle.std.specs.List.{list_any}
use Rattle.ev_value.specs.declared.args.Args.{Args}
use Rattle.ev_value.specs.declared.value.ScalarTy.{ScalarTy}
use Rattle.ev_value.specs.declared.value.ScalarTy.TheVariants as scalar
use Rattle.core_ir.specs.declared.path.PtrId.{PtrId}
use Rattle.core_ir.specs.declared.path.TypeId.{TypeId}
use Rattle.core_ir.specs.declared.ty.Ty.{Ty}
use Rattle.core_ir.specs.declared.ty.Ty.TheVariants.{Scalar}
use Rattle.ev_schema.specs.declared.pointer.Computed.{Computed}
use Rattle.ev_schema.specs.declared.pointer.LinkProperty.{LinkProperty}
use Rattle.ev_schema.specs.declared.pointer.PtrInfo.{PtrInfo}
use Rattle.ev_schema.specs.declared.schema.Schema.{Schema}
use Rattle.ev_schema.specs.Pointers.{is_id}
use Rattle.ev_schema.specs.Steps.{type_stored}
use Rattle.ev_schema.specs.Types.{is_subtype, listed_pointers}
use Rattle.ev_index.specs.Globals.{global_type}
use Rattle.eql_agree.specs.Kinds.{Each}
use Rattle.eql_steps.specs.Steps.{argument_named}
use Rattle.store_agree.specs.Typed.{given_fits, ExtendsOn}
use Rattle.type_agree.specs.Noted.{Noted, Numbered, Asked}

-- whether a type lists a pointer
abbrev pub lists : Schema → TypeId → PtrId → Bool
lists s a p = list_any (λ (q : PtrId). q.0 == p.0) (listed_pointers s.types a)

-- The subject of a computed pointer's expression is the type that declares the pointer.
abbrev pub IsOfOrigin : Schema → Computed → Type 0
IsOfOrigin s c = (info : PtrInfo) → slice_get s.pointers c.pointer.0 ≡ Some info → c.expr.typed.core.subject ≡ Some info.origin

-- A schema whose types and pointers suit each other.
pub record IsTypedSchema (s : Schema) : Type 0 where
  -- What extends a type extends what that one extends.
  pub extends : ExtendsOn s
  -- `id` is a uuid.
  pub id : (p : PtrId) → IsTrue (is_id s.pointers p) → type_stored (slice_get s.pointers p.0) ≡ Some (Scalar scalar.Uuid)
  -- A type that lists a pointer is the one that declares it, or extends that one.
  pub listed : (a : TypeId) (p : PtrId) (info : PtrInfo) → IsTrue (lists s a p) → slice_get s.pointers p.0 ≡ Some info → IsTrue (is_subtype s.types a info.origin)
  -- The expressions of computed pointers are over the types that declare these.
  pub subjects : Each (IsOfOrigin s) s.computed
  -- A computed pointer has one expression.
  pub once : AllPairs (λ (c d : Computed). c.pointer.0 ≢ d.pointer.0) s.computed
  -- No two properties of a link have one name.
  pub properties : (p : PtrId) (info : PtrInfo) → slice_get s.pointers p.0 ≡ Some info → AllPairs (λ (q r : LinkProperty). q.name ≢ r.name) info.link_props

-- what a place says of a number is its type
abbrev pub IsGivenTo : (ℕ → Option Ty) → Noted → Type 0
IsGivenTo types (Numbered n t) = types n ≡ t
IsGivenTo types (Asked p) = Unit {0}

-- Each number has one type, which stands in each slot that is for it.
pub record HasOneTypeEach (types : ℕ → Option Ty) (notes : List Noted) : Type 0 where
  pub each : Each (IsGivenTo types) notes

-- the argument of a parameter, where one is given, is of its type
abbrev pub IsAnswered : Args → Noted → Type 0
IsAnswered args (Numbered n t) = Unit {0}
IsAnswered args (Asked p) = IsTrue (given_fits (argument_named args.params p.name) (Scalar p.ty))

-- The arguments that are given for globals and for the parameters of a tree are of their types.
pub record ArgumentsSuit (s : Schema) (args : Args) (notes : List Noted) : Type 0 where
  pub globals : (name : List ℕ) (a : ScalarTy) → global_type s.globals name ≡ Some a → IsTrue (given_fits (argument_named args.globals name) (Scalar a))
  pub parameters : Each (IsAnswered args) notes
