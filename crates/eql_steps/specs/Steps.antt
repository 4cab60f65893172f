-- What the steps of a path give over a list of objects.
use Rattle.std.specs.Prelude.{ℕ, ◌==◌, ◌&&◌, Bool, false, List, [], ◌∷◌, filter, map, Option, Some, None, if◌then◌else◌}
use Rattle.std.specs.List.{list_any}
use Rattle.std.specs.Str.{bytes_eq}
use Rattle.ev_value.specs.Item.{bind, one, all_of, collect}
use Rattle.ev_value.specs.declared.args.Argument.{Argument}
use Rattle.ev_value.specs.declared.item.Item.{Item}
use Rattle.ev_value.specs.declared.value.Val.{Val}
use Rattle.ev_value.specs.declared.value.Val.TheVariants as made
use Rattle.core_ir.specs.declared.path.PtrId.{PtrId}
use Rattle.core_ir.specs.declared.path.TypeId.{TypeId}
use Rattle.ev_schema.specs.declared.schema.Schema.{Schema}
use Rattle.ev_schema.specs.Pointers.{is_id}
use Rattle.ev_schema.specs.Types.{is_subtype}
use Rattle.db_store.specs.declared.object.LinkValue.{LinkValue}
use Rattle.db_store.specs.declared.object.Object.{Object}
use Rattle.db_store.specs.declared.object.Target.{Target}
use Rattle.db_store.specs.Objects.{object_of, values_at, targets_at, as_value}

-- what an object gives, if there is one
abbrev pub of_object : {A : Type 0} → Option Object → (Object → List A) → List A
of_object None f = []
of_object (Some o) f = f o

-- whether one of some targets is an object
abbrev pub leads_to : Object → List Target → Bool
leads_to o ts = list_any (λ (t : Target). t.id == o.id) ts

-- whether an object that may be there is one of some targets
abbrev pub is_among_targets : List Target → Option Object → Bool
is_among_targets ts None = false
is_among_targets ts (Some o) = leads_to o ts

-- the value of the property with a name
abbrev pub property_named : List LinkValue → List ℕ → List Val
property_named [] n = []
property_named (v ∷ more) n = if bytes_eq v.name n then v.value ∷ [] else property_named more n

-- the value of a property at the first of some targets that is an object
abbrev pub property_at : List Target → Object → List ℕ → List Val
property_at [] o n = []
property_at (t ∷ more) o n = if t.id == o.id then property_named t.properties n else property_at more o n

-- the first argument with a name
abbrev pub argument_named : List Argument → List ℕ → Option Val
argument_named [] n = None
argument_named (a ∷ more) n = if bytes_eq a.name n then Some a.value else argument_named more n

-- the property of the link from a source to a target
abbrev pub link_property : List Object → PtrId → List ℕ → Val → Val → List Val
link_property os l n source target =
    of_object (object_of os source) (λ a. of_object (object_of os target) (λ b. property_at (targets_at a l) b n))

-- whether a link of a value leads to an object
abbrev pub is_target : List Object → PtrId → Object → Val → Bool
is_target os l o v = leads_to o (of_object (object_of os v) (λ source. targets_at source l))

-- each target of some objects once, in order of id
abbrev pub targets_among : List Object → PtrId → List Val → List Val
targets_among os l vs = map as_value (filter (λ (o : Object). list_any (is_target os l o) vs) os)

-- `.l`: each target of any object once, in order of id; the faults alone where there are some
abbrev pub links : List Object → PtrId → List (Item Val) → List (Item Val)
links os l xs = collect (λ vs. all_of (targets_among os l vs)) xs

-- whether a value is a target of an object's link
abbrev pub is_source : List Object → PtrId → Object → Val → Bool
is_source os l o v = is_among_targets (targets_at o l) (object_of os v)

-- `.p`: the values of a property; `id` is the object's own
abbrev pub property : Schema → PtrId → Object → List Val
property s p o = if is_id s.pointers p then made.Id o.id ∷ [] else values_at o p

module _ (s : Schema) (os : List Object) where
  -- the objects of a type and of those that extend it, in order of id
  abbrev pub extent : TypeId → List Val
  extent t = map as_value (filter (λ (o : Object). is_subtype s.types o.ty t) os)

  -- the values of each object in turn, repeats kept
  abbrev pub properties : PtrId → List (Item Val) → List (Item Val)
  properties p xs = bind xs (λ v. all_of (of_object (object_of os v) (property s p)))

  -- each object of a type, or of one that extends it, whose link leads to one of some objects, once, in order of id
  abbrev pub sources_among : PtrId → TypeId → List Val → List Val
  sources_among l t vs = map as_value (filter (λ (o : Object). is_subtype s.types o.ty t && list_any (is_source os l o) vs) os)

  -- `.<l[is T]`: the sources of the objects of a list; the faults alone where there are some
  abbrev pub back_links : PtrId → TypeId → List (Item Val) → List (Item Val)
  back_links l t xs = collect (λ vs. all_of (sources_among l t vs)) xs

  abbrev pub is_of : TypeId → Option Object → Bool
  is_of t None = false
  is_of t (Some o) = is_subtype s.types o.ty t

  -- whether a value is an object of a type or of one that extends it
  abbrev pub is_of_type : TypeId → Val → Bool
  is_of_type t v = is_of t (object_of os v)

  -- `[is T]`: the objects of the type or of one that extends it, in place
  abbrev pub narrowed : TypeId → List (Item Val) → List (Item Val)
  narrowed t xs = bind xs (λ v. if is_of_type t v then one v else [])
