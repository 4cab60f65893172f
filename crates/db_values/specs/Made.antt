-- The object that a draft writes.
use Rattle.std.specs.Prelude.{ℕ, List, [], ◌∷◌, ◌++◌, map, Option, Some, None, slice_get, if◌then◌else◌}
use Rattle.ev_value.specs.declared.value.Val.TheVariants as made
use Rattle.ev_list.specs.Order.{in_order, keyless}
use Rattle.ev_list.specs.declared.order.Keyed.{Keyed}
use Rattle.core_ir.specs.declared.path.PtrId.{PtrId}
use Rattle.core_ir.specs.declared.path.TypeId.{TypeId}
use Rattle.core_ir.specs.declared.ty.Ty.{Ty}
use Rattle.core_ir.specs.declared.ty.Ty as ty
use Rattle.ev_schema.specs.Policies.{by_name}
use Rattle.ev_schema.specs.declared.pointer.Body.{Body}
use Rattle.ev_schema.specs.declared.pointer.Body.TheVariants as body
use Rattle.ev_schema.specs.declared.pointer.LinkProperty.{LinkProperty}
use Rattle.ev_schema.specs.declared.pointer.PtrInfo.{PtrInfo}
use Rattle.db_store.specs.declared.object.Entry.{Entry}
use Rattle.db_store.specs.declared.object.LinkValue.{LinkValue}
use Rattle.db_store.specs.declared.object.Object.{Object}
use Rattle.db_store.specs.declared.object.PtrValue.TheVariants as value
use Rattle.db_store.specs.declared.object.Target.{Target}
use Rattle.db_draft.specs.Members.{member}
use Rattle.db_draft.specs.Values.{value_of}
use Rattle.db_draft.specs.declared.draft.Element.{Element}
use Rattle.db_draft.specs.declared.draft.Field.{Field}
use Rattle.db_draft.specs.declared.draft.Member.{Member}
use Rattle.db_draft.specs.declared.draft.Plain.{Plain}
use Rattle.db_values.specs.Elements.{elements}
use Rattle.db_values.specs.Properties.{values_of, value_in}
use Rattle.db_values.specs.Links.{target_id, fields_of, is_key_of}

-- what stands under the key of a link's property, if anything does
abbrev pub property_in : List Field → List ℕ → Option Plain
property_in [] name = None
property_in (f ∷ more) name = if is_key_of f.name name then Some f.value else property_in more name

abbrev pub property_value : LinkProperty → Option Plain → List LinkValue
property_value p None = []
property_value p (Some v) = map (λ x. record { name = p.name; value = x }) (value_in (value_of p.ty v))

-- the values of a link's properties at one target, in the order of the declared ones
abbrev pub properties_of : List LinkProperty → List Field → List LinkValue
properties_of [] fs = []
properties_of (p ∷ more) fs = property_value p (property_in fs p.name) ++ properties_of more fs

abbrev pub target_with : List LinkProperty → List Field → Option ℕ → List (Keyed Target)
target_with ps fs None = []
target_with ps fs (Some id) = record { keys = Some (made.Id id) ∷ []; value = record { id = id; properties = properties_of ps fs } } ∷ []

-- the targets that elements name, each with its id as its key
abbrev pub keyed_targets : List LinkProperty → List Element → List (Keyed Target)
keyed_targets ps [] = []
keyed_targets ps (e ∷ more) = target_with ps (fields_of e) (target_id e) ++ keyed_targets ps more

-- the targets that elements name, in order of id
abbrev pub targets_of : List LinkProperty → List Element → List Target
targets_of ps es = keyless (in_order by_name (keyed_targets ps es))

-- an entry for a pointer, where something stands for it
abbrev pub stored_entry : PtrId → PtrInfo → Ty → List Element → List Entry
stored_entry p info t [] = []
stored_entry p info (ty.Scalar t) (e ∷ more) = record { pointer = p; value = value.Vals (values_of t (e ∷ more)) } ∷ []
stored_entry p info (ty.Object t) (e ∷ more) = record { pointer = p; value = value.Links (targets_of info.link_props (e ∷ more)) } ∷ []
stored_entry p info _ (e ∷ more) = []

abbrev pub entry_of : PtrId → PtrInfo → Body → List Element → List Entry
entry_of p info (body.Stored t) es = stored_entry p info t es
entry_of p info body.Computed es = []

abbrev pub entry_if_known : List Member → PtrId → Option PtrInfo → List Entry
entry_if_known ms p None = []
entry_if_known ms p (Some info) = entry_of p info info.body (elements (member ms info.name))

-- the entries of some pointers
abbrev pub entries : List PtrInfo → List Member → List PtrId → List Entry
entries infos ms [] = []
entries infos ms (p ∷ more) = entry_if_known ms p (slice_get infos p.0) ++ entries infos ms more

-- the object with an id and a type that a draft writes, where the type's pointers are given in byte order of their names
abbrev pub object_of : List PtrInfo → ℕ → TypeId → List PtrId → List Member → Object
object_of infos id t listed ms = record { id = id; ty = t; values = entries infos ms listed }
