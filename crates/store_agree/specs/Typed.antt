-- Types as kinds: which values have a type, and the rules by which the forms of a query have one.
use Rattle.std.specs.Prelude.{IsTrue, ◌≡◌, ℕ, zero, suc, ◌==◌, ◌&&◌, ◌||◌, Bool, true, false, List, [], ◌∷◌, Option, Some, None, slice_get, if◌then◌else◌}
use Rattle.std.specs.Str.{bytes_eq}
use Rattle.ev_value.specs.Item.{EachValue}
use Rattle.ev_value.specs.declared.args.Args.{Args}
use Rattle.ev_value.specs.declared.operator.Op.{Op}
use Rattle.ev_value.specs.declared.operator.Op.TheVariants as op
use Rattle.ev_value.specs.declared.value.ScalarTy.{ScalarTy}
use Rattle.ev_value.specs.declared.value.ScalarTy.TheVariants as scalar
use Rattle.ev_value.specs.declared.value.Val.{Val, Row_of-Val, end_of-Val, more_of-Val}
use Rattle.ev_value.specs.declared.value.Val as val
use Rattle.core_ir.specs.declared.path.PtrId.{PtrId}
use Rattle.core_ir.specs.declared.path.Step.{Step}
use Rattle.core_ir.specs.declared.path.Step.TheVariants as step
use Rattle.core_ir.specs.declared.path.TypeId.{TypeId}
use Rattle.core_ir.specs.declared.tree.Expr.{Expr}
use Rattle.core_ir.specs.declared.tree.SetFunction.{SetFunction}
use Rattle.core_ir.specs.declared.tree.SetFunction.TheVariants as function
use Rattle.core_ir.specs.declared.ty.Ty.{Ty, Row_of-Ty, end_of-Ty, more_of-Ty}
use Rattle.core_ir.specs.declared.ty.Ty as ty
use Rattle.core_ir.specs.Path.{subject}
use Rattle.ev_schema.specs.declared.pointer.Computed.{Computed}
use Rattle.ev_schema.specs.declared.pointer.LinkProperty.{LinkProperty}
use Rattle.ev_schema.specs.declared.pointer.PtrInfo.{PtrInfo}
use Rattle.ev_schema.specs.declared.schema.Schema.{Schema}
use Rattle.ev_schema.specs.Pointers.{is_id}
use Rattle.ev_schema.specs.Steps.{type_stored}
use Rattle.ev_schema.specs.Types.{is_subtype}
use Rattle.db_store.specs.declared.object.Object.{Object}
use Rattle.db_store.specs.Fits.{Fits}
use Rattle.db_store.specs.Limits.{has_type, is_array_of}
use Rattle.eql_sem.specs.declared.binding.Bound.{Bound}
use Rattle.eql_sem.specs.declared.binding.Name.{Name}
use Rattle.eql_sem.specs.declared.binding.Name.TheVariants as name
use Rattle.eql_sem.specs.Parts.{values_in, items_in}
use Rattle.eql_steps.specs.Steps.{argument_named, is_of_type}
use Rattle.eql_world.specs.StoreWorld.{world_of}
use Rattle.eql_agree.specs.Kinds.{Rules, Kinds, Each, Along, Of}
use Rattle.eql_agree.specs.Kinded.{HasAsScope}
use Rattle.eql_agree.specs.Agreeing.{InBound, InItem}

-- a value without objects is of a type that is no tuple's
abbrev pub plain_type : Ty → Val → Bool
plain_type (ty.Scalar t) v = has_type t v
plain_type (ty.Array t) v = is_array_of t v
plain_type _ v = false

-- two scalar types are one
abbrev pub same_scalar : ScalarTy → ScalarTy → Bool
same_scalar scalar.Int64 scalar.Int64 = true
same_scalar scalar.Str scalar.Str = true
same_scalar scalar.Bool scalar.Bool = true
same_scalar scalar.Uuid scalar.Uuid = true
same_scalar _ _ = false

-- a type is a scalar one
abbrev pub is_scalar : ScalarTy → Ty → Bool
is_scalar a (ty.Scalar b) = same_scalar a b
is_scalar a _ = false

-- a type is the one of arrays of a scalar type
abbrev pub is_array : ScalarTy → Ty → Bool
is_array a (ty.Array b) = same_scalar a b
is_array a _ = false

-- each type is a scalar one
abbrev pub are_scalar : ScalarTy → List Ty → Bool
are_scalar a [] = true
are_scalar a (t ∷ more) = is_scalar a t && are_scalar a more

-- the component of a tuple's type; of another type it has no meaning
abbrev pub part_at : {m : _} → Row_of-Ty m → ℕ → Ty
part_at end_of-Ty i = ty.Scalar scalar.Bool
part_at (more_of-Ty t rest) zero = t
part_at (more_of-Ty t rest) (suc i) = part_at rest i

-- the type of the component with a number, of a tuple of the type
abbrev pub part_of : Ty → ℕ → Ty
part_of (ty.Tuple' _ ts) i = part_at ts i
part_of _ i = ty.Scalar scalar.Bool

-- the type of the array of values of these types
abbrev pub makes_array : List Ty → Ty → Bool
makes_array us (ty.Array a) = are_scalar a us
makes_array us _ = false

-- the type of an array's elements
abbrev pub gives_element : Ty → Ty → Bool
gives_element (ty.Array a) t = is_scalar a t
gives_element _ t = false

-- the type of what an operator gives
abbrev pub result_of : Op → ScalarTy
result_of op.Add = scalar.Int64
result_of op.Sub = scalar.Int64
result_of op.Mul = scalar.Int64
result_of op.FloorDiv = scalar.Int64
result_of op.Mod = scalar.Int64
result_of op.Neg = scalar.Int64
result_of op.Len = scalar.Int64
result_of op.Concat = scalar.Str
result_of _ = scalar.Bool

module _ (s : Schema) (os : List Object) where
  unfoldable mutual
    -- A value is of a type: of a scalar one, an object that is in the store, an array of such scalars, or a tuple of such.
    pub is_of_ty : Ty → Val → Bool
    is_of_ty (ty.Scalar t) v = has_type t v
    is_of_ty (ty.Object t) v = is_of_type s os t v
    is_of_ty (ty.Tuple' _ ts) (val.Tuple' _ vs) = are_of_ty ts vs
    is_of_ty (ty.Array t) v = is_array_of t v
    is_of_ty _ _ = false

    -- values are of these types, one by one
    pub are_of_ty : {m n : _} → Row_of-Ty m → Row_of-Val n → Bool
    are_of_ty end_of-Ty end_of-Val = true
    are_of_ty (more_of-Ty t ts) (more_of-Val v vs) = is_of_ty t v && are_of_ty ts vs
    are_of_ty _ _ = false

module _ (s : Schema) where
  unfoldable mutual
    -- a type is another one, or its objects are
    pub widens : Ty → Ty → Bool
    widens (ty.Scalar a) t = is_scalar a t
    widens (ty.Object a) (ty.Object b) = is_subtype s.types a b
    widens (ty.Tuple' _ us) (ty.Tuple' _ ts) = all_widen us ts
    widens (ty.Array a) t = is_array a t
    widens _ _ = false

    -- types are others, or their objects are, one by one
    pub all_widen : {m n : _} → Row_of-Ty m → Row_of-Ty n → Bool
    all_widen end_of-Ty end_of-Ty = true
    all_widen (more_of-Ty u us) (more_of-Ty t ts) = widens u t && all_widen us ts
    all_widen _ _ = false

  -- the same, where the first ones are the types of operands
  abbrev pub parts_widen : {m : _} → List Ty → Row_of-Ty m → Bool
  parts_widen [] end_of-Ty = true
  parts_widen (u ∷ us) (more_of-Ty t ts) = widens u t && parts_widen us ts
  parts_widen _ _ = false

  -- the type of the tuple of values of these types
  abbrev pub makes_tuple : List Ty → Ty → Bool
  makes_tuple us (ty.Tuple' _ ts) = parts_widen us ts
  makes_tuple us _ = false

  -- a type that may be there is another one, or its objects are
  abbrev pub widens_from : Option Ty → Ty → Bool
  widens_from None t = false
  widens_from (Some u) t = widens u t

  -- what is stored of the pointer with a number is of the type
  abbrev pub leads : PtrId → Ty → Bool
  leads p t = widens_from (type_stored (slice_get s.pointers p.0)) t

  -- each property with the name is of the scalar type
  abbrev pub property_leads : List LinkProperty → List ℕ → Ty → Bool
  property_leads [] n t = true
  property_leads (q ∷ more) n t = (if bytes_eq q.name n then is_scalar q.ty t else true) && property_leads more n t

  -- the properties with the name, of a pointer that may be there, are of the scalar type
  abbrev pub of_link : Option PtrInfo → List ℕ → Ty → Bool
  of_link None n t = true
  of_link (Some info) n t = property_leads info.link_props n t

  -- an object of the type may be the subject of an expression
  abbrev pub takes : Option TypeId → Ty → Bool
  takes None u = false
  takes (Some a) u = widens u (ty.Object a)

  -- the expressions of a computed pointer take the one type and give the other
  abbrev pub computed_leads : List Computed → PtrId → Ty → Ty → Bool
  computed_leads [] p u t = true
  computed_leads (c ∷ more) p u t = (if c.pointer.0 == p.0 then takes c.expr.typed.core.subject u && widens c.ty t else true) && computed_leads more p u t

  -- a step from values of the one type leads to values of the other
  abbrev pub step_leads : Step → Ty → Ty → Bool
  step_leads (step.Prop p) u t = if is_id s.pointers p then is_scalar scalar.Uuid t else leads p t
  step_leads (step.Link p) u t = leads p t
  step_leads (step.Comp p) u t = computed_leads s.computed p u t
  step_leads (step.Back p a) u t = widens (ty.Object a) t
  step_leads (step.Is a) u t = widens u t || widens (ty.Object a) t
  step_leads _ u t = true

  -- a function of a set of values of the one type gives values of the other
  abbrev pub function_gives : SetFunction → Ty → Ty → Bool
  function_gives function.Count u t = is_scalar scalar.Int64 t
  function_gives function.Sum u t = is_scalar scalar.Int64 t
  function_gives function.Any u t = is_scalar scalar.Bool t
  function_gives function.All u t = is_scalar scalar.Bool t
  function_gives function.Exists u t = is_scalar scalar.Bool t
  function_gives function.ArrayAgg u t = gives_element t u
  function_gives _ u t = widens u t

-- an argument that may be there is of the type
abbrev pub given_fits : Option Val → Ty → Bool
given_fits None t = true
given_fits (Some v) t = plain_type t v

-- the rules of types
abbrev pub typing : Schema → Args → Rules Ty
typing s args = record {
  part = part_of;
  widens = widens s;
  literal = λ v t. plain_type t v;
  param = λ q t. given_fits (argument_named args.params q.name) t;
  global = λ n t. given_fits (argument_named args.globals n) t;
  extent = λ a t. widens s (ty.Object a) t;
  step = step_leads s;
  property = λ l n u v t. of_link s (slice_get s.pointers l.0) n t;
  operation = λ o us t. is_scalar (result_of o) t;
  cast = λ a u t. is_scalar a t;
  function = function_gives s;
  truth = is_scalar scalar.Bool;
  tuple = makes_tuple s;
  array = makes_array;
  element = gives_element;
}

-- the rules, and the values of each type among these objects
abbrev pub types : Schema → List Object → Args → Kinds Ty
types s os args = record { rules = typing s args; holds = is_of_ty s os }

-- the types of a schema: what extends a type extends what that one extends
abbrev pub ExtendsOn : Schema → Type 0
ExtendsOn s = (a b c : TypeId) → IsTrue (is_subtype s.types a b) → IsTrue (is_subtype s.types b c) → IsTrue (is_subtype s.types a c)

-- The expression of a computed pointer has the pointer's type, where its subject has the type that it is written for.
abbrev pub IsTyped : Schema → Args → Computed → Type 0
IsTyped s args c =
    (a : TypeId) → c.expr.typed.core.subject ≡ Some a → HasAsScope (typing s args) c.expr.typed.core.root.body (name.Prefix (subject 0) ∷ []) (ty.Object a ∷ []) c.ty

-- Each of some expressions of computed pointers has its pointer's type.
abbrev pub ComputedTyped : Schema → Args → List Computed → Type 0
ComputedTyped s args cs = Each (IsTyped s args) cs

-- What a query gives has its type, and its forms are made of values of its type.
pub record ValuesHaveTheirTypes : Type 0 where
  pub of_values : (s : Schema) (os : List Object) (args : Args) → Fits s os → ExtendsOn s → ComputedTyped s args s.computed
      → (x : Expr) (ns : List Name) (ts : List Ty) (b : List Bound) (t : Ty) → HasAsScope (typing s args) x ns ts t → Along (InBound (types s os args)) ts b
      → EachValue (Of (types s os args) t) (values_in (world_of s os args) x ns b)
  pub of_items : (s : Schema) (os : List Object) (args : Args) → Fits s os → ExtendsOn s → ComputedTyped s args s.computed
      → (x : Expr) (ns : List Name) (ts : List Ty) (b : List Bound) (t : Ty) → HasAsScope (typing s args) x ns ts t → Along (InBound (types s os args)) ts b
      → EachValue (InItem (types s os args) t) (items_in (world_of s os args) x ns b)
