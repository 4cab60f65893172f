-- What fails in an object, at the least name.
use Rattle.std.specs.Prelude.{ℕ, Bool, true, false, not, List, [], ◌∷◌, Option, Some, None, slice_get, option_map, if◌then◌else◌}
use Rattle.ev_value.specs.declared.value.ScalarTy.{ScalarTy}
use Rattle.core_ir.specs.Card.{is_many}
use Rattle.core_ir.specs.declared.path.PtrId.{PtrId}
use Rattle.core_ir.specs.declared.path.TypeId.{TypeId}
use Rattle.core_ir.specs.declared.ty.Ty.{Ty}
use Rattle.core_ir.specs.declared.ty.Ty as ty
use Rattle.ev_schema.specs.Pointers.{pointer_named}
use Rattle.ev_schema.specs.declared.pointer.Body.{Body}
use Rattle.ev_schema.specs.declared.pointer.Body.TheVariants as body
use Rattle.ev_schema.specs.declared.pointer.PtrInfo.{PtrInfo}
use Rattle.ev_schema.specs.declared.schema.Schema.{Schema}
use Rattle.ev_schema.specs.declared.types.TypeInfo.{TypeInfo}
use Rattle.db_store.specs.Fits.{text_before, name_of}
use Rattle.db_draft.specs.First.{or_else}
use Rattle.db_draft.specs.Members.{member}
use Rattle.db_draft.specs.declared.draft.Draft.{Draft}
use Rattle.db_draft.specs.declared.draft.Element.{Element}
use Rattle.db_draft.specs.declared.draft.Member.{Member}
use Rattle.db_draft.specs.declared.refusal.Rule.TheVariants as rule
use Rattle.db_ids.specs.declared.heads.Head.{Head}
use Rattle.db_values.specs.declared.flaw.Flaw.{Flaw}
use Rattle.db_values.specs.declared.flaw.Flawed.{Flawed}
use Rattle.db_values.specs.Elements.{form_flaw, elements}
use Rattle.db_values.specs.Properties.{property_flaw}
use Rattle.db_values.specs.Links.{alone, link_flaw}

-- ---- keys

abbrev pub is_stored : Body → Bool
is_stored (body.Stored t) = true
is_stored body.Computed = false

abbrev pub is_stored_if_known : Option PtrInfo → Bool
is_stored_if_known None = false
is_stored_if_known (Some info) = is_stored info.body

abbrev pub is_stored_pointer : Schema → Option PtrId → Bool
is_stored_pointer s None = false
is_stored_pointer s (Some p) = is_stored_if_known (slice_get s.pointers p.0)

-- X6 fails where a key names no stored pointer of the type
abbrev pub is_unknown_key : Schema → TypeId → List ℕ → Bool
is_unknown_key s t key = not (is_stored_pointer s (pointer_named s t key))

-- the lesser of two keys, in byte order
abbrev pub lesser : Option (List ℕ) → List ℕ → Option (List ℕ)
lesser None key = Some key
lesser (Some least) key = if text_before key least then Some key else Some least

-- the least of some keys that name no stored pointer, and of one that was found before
abbrev pub least_unknown : Schema → TypeId → Option (List ℕ) → List Member → Option (List ℕ)
least_unknown s t found [] = found
least_unknown s t found (m ∷ more) = least_unknown s t (if is_unknown_key s t m.name then lesser found m.name else found) more

-- ---- pointers

abbrev pub scalar_flaw : PtrInfo → ScalarTy → Option Draft → Option Flaw
scalar_flaw info t d = or_else (option_map alone (form_flaw (is_many info.card) d)) (option_map alone (property_flaw info t (elements d)))

-- X7 fails where anything stands for a pointer of an array type: no document writes an array of scalars as a value yet
abbrev pub array_flaw : List Element → Option Flaw
array_flaw [] = None
array_flaw (e ∷ more) = Some (alone rule.X7)

module _ (types : List TypeInfo) (heads : List Head) where
  abbrev pub target_flaw : PtrInfo → TypeId → Option Draft → Option Flaw
  target_flaw info t d = or_else (option_map alone (form_flaw (is_many info.card) d)) (link_flaw types heads info t (elements d))

  abbrev pub stored_flaw : PtrInfo → Ty → Option Draft → Option Flaw
  stored_flaw info (ty.Scalar t) d = scalar_flaw info t d
  stored_flaw info (ty.Object t) d = target_flaw info t d
  stored_flaw info (ty.Tuple' n ts) d = None
  stored_flaw info (ty.Array t) d = array_flaw (elements d)

  -- what fails at a pointer, for which this stands
  abbrev pub pointer_flaw : PtrInfo → Body → Option Draft → Option Flaw
  pointer_flaw info (body.Stored t) d = stored_flaw info t d
  pointer_flaw info body.Computed d = None

  abbrev pub flaw_if_known : List Member → PtrId → Option PtrInfo → Option Flawed
  flaw_if_known ms p None = None
  flaw_if_known ms p (Some info) = option_map (λ f. record { pointer = p; flaw = f }) (pointer_flaw info info.body (member ms info.name))

  -- the first of some pointers at which something fails
  abbrev pub first_flawed : List PtrInfo → List Member → List PtrId → Option Flawed
  first_flawed infos ms [] = None
  first_flawed infos ms (p ∷ more) = or_else (flaw_if_known ms p (slice_get infos p.0)) (first_flawed infos ms more)

-- ---- both

-- the flaw at the least name, where an unknown key and a pointer with a flaw are given
abbrev pub sooner : List PtrInfo → Option (List ℕ) → Option Flawed → Option Flaw
sooner infos None None = None
sooner infos None (Some f) = Some f.flaw
sooner infos (Some key) None = Some (alone rule.X6)
sooner infos (Some key) (Some f) = if text_before (name_of (slice_get infos f.pointer.0)) key then Some f.flaw else Some (alone rule.X6)

-- what fails in an object of a type, whose pointers are given in byte order of their names
abbrev pub object_flaw : Schema → List Head → TypeId → List PtrId → List Member → Option Flaw
object_flaw s heads t listed ms = sooner s.pointers (least_unknown s t None ms) (first_flawed s.types heads s.pointers ms listed)
