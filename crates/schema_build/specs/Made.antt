-- The schema of a text that breaks no rule.
use Rattle.std.specs.Prelude.{ℕ, zero, suc, ◌+◌, Bool, true, false, List, [], ◌∷◌, ◌++◌, length, flat_map, ℤ, Option, Some, None}
use Rattle.ast.specs.declared.expression.Expr.{Expr}
use Rattle.ast.specs.declared.name.QualifiedName.{QualifiedName}
use Rattle.ast.specs.declared.shape.Qualifiers.{Qualifiers}
use Rattle.core_ir.specs.declared.card.Card.{Card}
use Rattle.core_ir.specs.declared.card.Card.TheVariants as card
use Rattle.core_ir.specs.declared.path.PtrId.{PtrId}
use Rattle.core_ir.specs.declared.path.TypeId.{TypeId}
use Rattle.core_ir.specs.declared.ty.Ty.{Ty}
use Rattle.core_ir.specs.declared.ty.Ty.TheVariants as ty
use Rattle.ev_list.specs.Order.{in_order, keyless}
use Rattle.ev_list.specs.declared.order.Keyed.{Keyed}
use Rattle.ev_value.specs.declared.value.ScalarTy.{ScalarTy}
use Rattle.ev_value.specs.declared.value.ScalarTy.TheVariants as scalar
use Rattle.ev_value.specs.declared.value.Val.{Val}
use Rattle.ev_value.specs.declared.value.Val as val
use Rattle.ev_value.specs.declared.value.Val.TheVariants as value
use Rattle.ev_schema.specs.Policies.{by_name}
use Rattle.ev_schema.specs.declared.pointer.Body.TheVariants as stored
use Rattle.ev_schema.specs.declared.pointer.Limit.{Limit}
use Rattle.ev_schema.specs.declared.pointer.Limit.TheVariants as limit
use Rattle.ev_schema.specs.declared.pointer.LinkProperty.{LinkProperty}
use Rattle.ev_schema.specs.declared.pointer.PtrInfo.{PtrInfo}
use Rattle.ev_schema.specs.declared.types.GlobalInfo.{GlobalInfo}
use Rattle.ev_schema.specs.declared.types.TypeInfo.{TypeInfo}
use Rattle.sdl_ast.specs.declared.declaration.Decl.{Decl}
use Rattle.sdl_ast.specs.declared.declaration.Decl.TheVariants as decl
use Rattle.sdl_ast.specs.declared.item.Item.{Item}
use Rattle.sdl_ast.specs.declared.item.Item.TheVariants as item
use Rattle.sdl_ast.specs.declared.member.Member.{Member}
use Rattle.sdl_ast.specs.declared.member.Member.TheVariants as member
use Rattle.sdl_ast.specs.declared.member.Pointer.{Pointer}
use Rattle.sdl_ast.specs.declared.member.PointerBody.{PointerBody}
use Rattle.sdl_ast.specs.declared.member.PointerBody.TheVariants as body
use Rattle.schema_build.specs.declared.names.Meant.{Meant}
use Rattle.schema_build.specs.declared.names.Meant.TheVariants as meant
use Rattle.schema_build.specs.declared.suits.Constraining.{Constraining}
use Rattle.schema_build.specs.declared.suits.Constraining.TheVariants as constraining
use Rattle.schema_build.specs.Lineage.{at}
use Rattle.schema_build.specs.LinkProperties.{is_required, is_multi}
use Rattle.schema_build.specs.Literal.{literal}
use Rattle.schema_build.specs.Names.{meaning_of}
use Rattle.schema_build.specs.Suits.{constraint_named}

-- the bounds of what is required or not, and multi or not
abbrev pub bounds : Bool → Bool → Card
bounds false false = card.AtMostOne
bounds false true = card.Many
bounds true false = card.One
bounds true true = card.AtLeastOne

-- Pointers are optional and single unless `required` or `multi` is written.
abbrev pub card_of : Qualifiers → Card
card_of q = bounds (is_required q.need) (is_multi q.width)

-- the type of a stored pointer; where M2 passes each is known
abbrev pub type_of : Option Meant → Ty
type_of (Some (meant.Scalar s)) = ty.Scalar s
type_of (Some (meant.Object n)) = ty.Object (record { 0 = n })
type_of None = ty.Tuple []

-- the type of a global or of a link property; where M2 passes each is scalar
abbrev pub scalar_of : Option Meant → ScalarTy
scalar_of (Some (meant.Scalar s)) = s
scalar_of (Some (meant.Object t)) = scalar.Str
scalar_of None = scalar.Str

-- a number, if the value is one
abbrev pub number_in : Option Val → Option ℤ
number_in (Some (val.Int z)) = Some z
number_in _ = None

-- the number that the first argument is
abbrev pub first_number : List Expr → Option ℤ
first_number [] = None
first_number (e ∷ more) = number_in (literal e)

-- the value of a literal, if there is one
abbrev pub value_in : Option Val → List Val
value_in None = []
value_in (Some v) = v ∷ []

-- the values of literals
abbrev pub values_of : List Expr → List Val
values_of [] = []
values_of (e ∷ more) = value_in (literal e) ++ values_of more

-- a constraint by a number
abbrev pub bound_of : Constraining → ℤ → Option Limit
bound_of constraining.MinValue z = Some (limit.MinValue z)
bound_of constraining.MaxValue z = Some (limit.MaxValue z)
bound_of constraining.MinExValue z = Some (limit.MinExValue z)
bound_of constraining.MaxExValue z = Some (limit.MaxExValue z)
bound_of constraining.MinLen z = Some (limit.MinLen z)
bound_of constraining.MaxLen z = Some (limit.MaxLen z)
bound_of constraining.Exclusive z = None
bound_of constraining.OneOf z = None

-- a constraint by a number, if there is one
abbrev pub bound_if_some : Constraining → Option ℤ → Option Limit
bound_if_some c None = None
bound_if_some c (Some z) = bound_of c z

-- a constraint with its arguments
abbrev pub limit_of : Constraining → List Expr → Option Limit
limit_of constraining.Exclusive args = Some limit.Exclusive
limit_of constraining.OneOf args = Some (limit.OneOf (values_of args))
limit_of constraining.MinValue args = bound_if_some constraining.MinValue (first_number args)
limit_of constraining.MaxValue args = bound_if_some constraining.MaxValue (first_number args)
limit_of constraining.MinExValue args = bound_if_some constraining.MinExValue (first_number args)
limit_of constraining.MaxExValue args = bound_if_some constraining.MaxExValue (first_number args)
limit_of constraining.MinLen args = bound_if_some constraining.MinLen (first_number args)
limit_of constraining.MaxLen args = bound_if_some constraining.MaxLen (first_number args)

-- a constraint with its arguments, if its name is one
abbrev pub limit_if_known : Option Constraining → List Expr → Option Limit
limit_if_known None args = None
limit_if_known (Some c) args = limit_of c args

-- a constraint, if there is one
abbrev pub limit_in : Option Limit → List Limit
limit_in None = []
limit_in (Some l) = l ∷ []

-- the constraint that an item says, if it says one
abbrev pub limit_at : Item → List Limit
limit_at (item.Constraint s c) = limit_in (limit_if_known (constraint_named c.name.text) c.arguments)
limit_at (item.Default s e) = []
limit_at (item.Deletion s d) = []
limit_at (item.Annotation a) = []
limit_at (item.Property s p) = []

-- the constraints of a pointer, in the order of the text
abbrev pub limits_in : List Item → List Limit
limits_in [] = []
limits_in (i ∷ more) = limit_at i ++ limits_in more

-- the default that an item says, if it says one
abbrev pub default_at : Item → Option Val
default_at (item.Default s e) = literal e
default_at (item.Constraint s c) = None
default_at (item.Deletion s d) = None
default_at (item.Annotation a) = None
default_at (item.Property s p) = None

-- what stands later, or else what stands before it
abbrev pub or_before : Option Val → Option Val → Option Val
or_before (Some v) before = Some v
or_before None before = before

-- the last default of a pointer
abbrev pub default_in : List Item → Option Val
default_in [] = None
default_in (i ∷ more) = or_before (default_in more) (default_at i)

-- what a schema says of a computed pointer, beside its expression
abbrev pub computed_info : TypeId → Pointer → PtrInfo
computed_info origin p = record {
  name = p.name.text;
  origin = origin;
  card = card_of p.qualifiers;
  body = stored.Computed;
  limits = [];
  link_props = [];
  default = None;
}

-- a link property with its name as its key
abbrev pub keyed_property : List ℕ → ScalarTy → Keyed LinkProperty
keyed_property name t = record { keys = Some (value.Str name) ∷ []; value = record { name = name; ty = t } }

module _ (types : List (List ℕ)) where
  -- the link property that an item says, if it says one
  abbrev pub property_at : Item → List (Keyed LinkProperty)
  property_at (item.Property s p) = keyed_property p.name.text (scalar_of (meaning_of types p.ty)) ∷ []
  property_at (item.Constraint s c) = []
  property_at (item.Default s e) = []
  property_at (item.Deletion s d) = []
  property_at (item.Annotation a) = []

  -- the link properties of a pointer, in the order of the text
  abbrev pub properties_in : List Item → List (Keyed LinkProperty)
  properties_in [] = []
  properties_in (i ∷ more) = property_at i ++ properties_in more

  -- the properties of a link, in byte order of their names
  abbrev pub link_properties : List Item → List LinkProperty
  link_properties items = keyless (in_order by_name (properties_in items))

  -- what a schema says of a stored pointer
  abbrev pub stored_info : TypeId → Pointer → QualifiedName → List Item → PtrInfo
  stored_info origin p q items = record {
    name = p.name.text;
    origin = origin;
    card = card_of p.qualifiers;
    body = stored.Stored (type_of (meaning_of types q));
    limits = limits_in items;
    link_props = link_properties items;
    default = default_in items;
  }

  -- what a schema says of a pointer that a type declares
  abbrev pub pointer_info : TypeId → Pointer → PointerBody → PtrInfo
  pointer_info origin p (body.Stored q items) = stored_info origin p q items
  pointer_info origin p (body.Computed e) = computed_info origin p

  -- the pointer that a member declares, if it declares one
  abbrev pub pointer_at : TypeId → Member → List PtrInfo
  pointer_at origin (member.Pointer s p) = pointer_info origin p p.body ∷ []
  pointer_at origin (member.Policy s p) = []
  pointer_at origin (member.Index s e) = []
  pointer_at origin (member.Annotation a) = []

  -- the pointers that a type declares, in the order of the text
  abbrev pub pointers_in : TypeId → List Member → List PtrInfo
  pointers_in origin [] = []
  pointers_in origin (m ∷ more) = pointer_at origin m ++ pointers_in origin more

  -- the pointers of all types, in the order of the text; the first type of the list has the number n
  abbrev pub pointers_from : ℕ → List Decl → List PtrInfo
  pointers_from n [] = []
  pointers_from n (decl.Type s t ∷ more) = pointers_in (record { 0 = n }) t.members ++ pointers_from (suc n) more
  pointers_from n (decl.Global s g ∷ more) = pointers_from n more

  -- a global of a scalar type
  abbrev pub global_info : List ℕ → QualifiedName → GlobalInfo
  global_info name q = record { name = name; ty = scalar_of (meaning_of types q) }

  -- the global that a declaration declares, if it declares one
  abbrev pub global_at : Decl → List GlobalInfo
  global_at (decl.Type s t) = []
  global_at (decl.Global s g) = global_info g.name.text g.ty ∷ []

  -- the globals, in the order of the text
  abbrev pub globals_of : List Decl → List GlobalInfo
  globals_of [] = []
  globals_of (d ∷ more) = global_at d ++ globals_of more

-- so many numbers of pointers from k on
abbrev pub numbers_from : ℕ → ℕ → List PtrId
numbers_from k zero = []
numbers_from k (suc n) = record { 0 = k } ∷ numbers_from (suc k) n

-- the numbers of the pointers that each type declares, where the names of its pointers are given; the first has the number k
abbrev pub declared_numbers : ℕ → List (List (List ℕ)) → List (List PtrId)
declared_numbers k [] = []
declared_numbers k (names ∷ more) = numbers_from k (length names) ∷ declared_numbers (k + length names) more

-- how many pointers all types declare
abbrev pub count_of : List (List (List ℕ)) → ℕ
count_of [] = 0
count_of (names ∷ more) = length names + count_of more

-- the pointers of a type: those that it declares, and then those of each type of its line
abbrev pub pointers_along : List (List PtrId) → List PtrId → List TypeId → List PtrId
pointers_along numbers own line = own ++ flat_map (λ (t : TypeId). at numbers t.0) line

-- what a schema says of a type
abbrev pub type_info : List ℕ → Bool → List (List PtrId) → List PtrId → List TypeId → TypeInfo
type_info name is_abstract numbers own line = record { name = name; is_abstract = is_abstract; ancestors = line; pointers = pointers_along numbers own line }

module _ (numbers : List (List PtrId)) (lines : List (List TypeId)) where
  -- what a schema says of the types; the first type of the list has the number n
  abbrev pub infos_from : ℕ → List Decl → List TypeInfo
  infos_from n [] = []
  infos_from n (decl.Type s t ∷ more) = type_info t.name.text t.is_abstract numbers (at numbers n) (at lines n) ∷ infos_from (suc n) more
  infos_from n (decl.Global s g ∷ more) = infos_from n more
