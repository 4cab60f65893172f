-- The type behind a step follows from the one before it.
use Rattle.std.specs.Prelude.{ℕ, List, [], ◌∷◌, Option, Some, None, slice_get, if◌then◌else◌}
use Rattle.std.specs.Str.{bytes_eq}
use Rattle.core_ir.specs.declared.path.PtrId.{PtrId}
use Rattle.core_ir.specs.declared.path.Step.{Step}
use Rattle.core_ir.specs.declared.path.Step.TheVariants as step
use Rattle.core_ir.specs.declared.path.TypeId.{TypeId}
use Rattle.core_ir.specs.declared.ty.Ty.{Ty}
use Rattle.core_ir.specs.declared.ty.Ty as ty
use Rattle.core_ir.specs.declared.ty.Ty.TheVariants as made
use Rattle.ev_schema.specs.Pointers.{computed_among}
use Rattle.ev_schema.specs.Types.{is_subtype}
use Rattle.ev_schema.specs.declared.pointer.Body.{Body}
use Rattle.ev_schema.specs.declared.pointer.Body.TheVariants as body
use Rattle.ev_schema.specs.declared.pointer.Computed.{Computed}
use Rattle.ev_schema.specs.declared.pointer.LinkProperty.{LinkProperty}
use Rattle.ev_schema.specs.declared.pointer.PtrInfo.{PtrInfo}
use Rattle.ev_schema.specs.declared.schema.Schema.{Schema}
use Rattle.ev_schema.specs.declared.types.TypeInfo.{TypeInfo}

-- the type of what is stored
abbrev pub type_of_body : Body → Option Ty
type_of_body (body.Stored t) = Some t
type_of_body body.Computed = None

-- the type that a stored pointer leads to
abbrev pub type_stored : Option PtrInfo → Option Ty
type_stored None = None
type_stored (Some info) = type_of_body info.body

-- the type that a computed pointer leads to, once its expression is known
abbrev pub type_computed : Option Computed → Option Ty
type_computed None = None
type_computed (Some c) = Some c.ty

-- the type of a property of a link, by its name
abbrev pub type_among : List LinkProperty → List ℕ → Option Ty
type_among [] name = None
type_among (p ∷ more) name = if bytes_eq p.name name then Some (made.Scalar p.ty) else type_among more name

-- the type of a property of a link, if there is such a link
abbrev pub type_of_property : Option PtrInfo → List ℕ → Option Ty
type_of_property None name = None
type_of_property (Some info) name = type_among info.link_props name

-- the lower one of two object types of which one is the other or extends it
abbrev pub lower_type : List TypeInfo → TypeId → TypeId → Option Ty
lower_type types t u = if is_subtype types t u then Some (made.Object t) else (if is_subtype types u t then Some (made.Object u) else None)

-- the link whose properties the next step may name: the one that a step takes
abbrev pub link_of : Step → Option PtrId
link_of (step.Link p) = Some p
link_of _ = None

-- the type of a property of the link that the step before takes
abbrev pub type_at_link : Schema → Option PtrId → List ℕ → Option Ty
type_at_link schema None name = None
type_at_link schema (Some link) name = type_of_property (slice_get schema.pointers link.0) name

module _ (schema : Schema) where
  -- The type behind a step from the objects of a type. The link that the step before takes is given, if it takes one.
  abbrev pub type_from_object : Option PtrId → TypeId → Step → Option Ty
  type_from_object link t (step.Prop p) = type_stored (slice_get schema.pointers p.0)
  type_from_object link t (step.Link p) = type_stored (slice_get schema.pointers p.0)
  type_from_object link t (step.Comp p) = type_computed (computed_among schema.computed p)
  type_from_object link t (step.Back p u) = Some (made.Object u)
  type_from_object link t (step.Is u) = lower_type schema.types t u
  type_from_object link t (step.LinkProp name) = type_at_link schema link name
  type_from_object link t (step.Dot name) = None
  type_from_object link t (step.BackDot name u) = None

  -- the type behind a step; from anything but objects there are no steps
  abbrev pub type_after : Option PtrId → Ty → Step → Option Ty
  type_after link (ty.Object t) x = type_from_object link t x
  type_after link _ x = None

  -- the type behind some steps, one after the other
  abbrev pub type_along : Option PtrId → Option Ty → List Step → Option Ty
  type_along link None steps = None
  type_along link (Some t) [] = Some t
  type_along link (Some t) (x ∷ more) = type_along (link_of x) (type_after link t x) more
