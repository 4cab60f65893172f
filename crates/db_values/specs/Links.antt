-- The rules on the targets of a link.
use Rattle.std.specs.Prelude.{ℕ, ◌==◌, ◌&&◌, Bool, false, not, List, [], ◌∷◌, ◌++◌, codes, slice_get, Option, Some, None, is_none, option_map, if◌then◌else◌}
use Rattle.std.specs.List.{list_any}
use Rattle.std.specs.Str.{bytes_eq}
use Rattle.core_ir.specs.declared.path.TypeId.{TypeId}
use Rattle.ev_schema.specs.Types.{is_subtype}
use Rattle.ev_schema.specs.declared.pointer.LinkProperty.{LinkProperty}
use Rattle.ev_schema.specs.declared.pointer.PtrInfo.{PtrInfo}
use Rattle.ev_schema.specs.declared.types.TypeInfo.{TypeInfo}
use Rattle.db_draft.specs.First.{or_else, when}
use Rattle.db_draft.specs.Members.{field}
use Rattle.db_draft.specs.Values.{plain_id, value_of}
use Rattle.db_draft.specs.declared.draft.Element.{Element}
use Rattle.db_draft.specs.declared.draft.Element.TheVariants as element
use Rattle.db_draft.specs.declared.draft.Field.{Field}
use Rattle.db_draft.specs.declared.draft.Plain.{Plain}
use Rattle.db_draft.specs.declared.refusal.Rule.{Rule}
use Rattle.db_draft.specs.declared.refusal.Rule.TheVariants as rule
use Rattle.db_ids.specs.Heads.{place_of}
use Rattle.db_ids.specs.declared.heads.Head.{Head}
use Rattle.db_values.specs.declared.flaw.Flaw.{Flaw}
use Rattle.db_values.specs.Elements.{is_null, is_lacking}

-- a rule that fails, where no other object is told
abbrev pub alone : Rule → Flaw
alone r = record { rule = r; other = None }

abbrev pub id_if_some : Option Plain → Option ℕ
id_if_some None = None
id_if_some (Some p) = plain_id p

-- the id of the object that an element names: it is the element, or stands in it under the key `id`
abbrev pub target_id : Element → Option ℕ
target_id (element.Plain p) = plain_id p
target_id (element.Object fields) = id_if_some (field fields (codes "id"))

abbrev pub fields_of : Element → List Field
fields_of (element.Plain p) = []
fields_of (element.Object fields) = fields

-- whether a key is `@` with a property's name behind it
abbrev pub is_key_of : List ℕ → List ℕ → Bool
is_key_of [] name = false
is_key_of (c ∷ rest) name = c == 64 && bytes_eq rest name

-- the property of a link that a key names
abbrev pub property_at : List LinkProperty → List ℕ → Option LinkProperty
property_at [] key = None
property_at (p ∷ more) key = if is_key_of key p.name then Some p else property_at more key

-- X6 fails where a key is neither `id` nor a property
abbrev pub is_unknown : List LinkProperty → Field → Bool
is_unknown ps f = not (bytes_eq f.name (codes "id")) && is_none (property_at ps f.name)

abbrev pub is_ill_for : Option LinkProperty → Plain → Bool
is_ill_for None v = false
is_ill_for (Some p) v = not (is_null v) && is_none (value_of p.ty v)

-- X7 fails where a property has a value of another type
abbrev pub is_ill : List LinkProperty → Field → Bool
is_ill ps f = is_ill_for (property_at ps f.name) f.value

abbrev pub head_at : List Head → Option ℕ → Option Head
head_at heads None = None
head_at heads (Some place) = slice_get heads place

abbrev pub is_of : List TypeInfo → TypeId → Option Head → Bool
is_of types t None = false
is_of types t (Some h) = is_subtype types h.ty t

abbrev pub leads_to : List TypeInfo → List Head → TypeId → Option ℕ → Bool
leads_to types heads t None = false
leads_to types heads t (Some id) = is_of types t (head_at heads (place_of heads id))

-- X10 fails where no object of the link's type has the id
abbrev pub leads : List TypeInfo → List Head → TypeId → Element → Bool
leads types heads t e = leads_to types heads t (target_id e)

abbrev pub id_list : Option ℕ → List ℕ
id_list None = []
id_list (Some id) = id ∷ []

-- the ids that elements name
abbrev pub ids_of : List Element → List ℕ
ids_of [] = []
ids_of (e ∷ more) = id_list (target_id e) ++ ids_of more

-- X11 fails where an id stands among those before it: the first such
abbrev pub repeated : List ℕ → List ℕ → Option ℕ
repeated before [] = None
repeated before (id ∷ more) = if list_any (λ x. x == id) before then Some id else repeated (before ++ id ∷ []) more

-- the first of the rules that need no other objects and fail
abbrev pub target_flaw : PtrInfo → List Element → Option Rule
target_flaw info es =
    or_else (when (list_any (λ e. is_none (target_id e)) es) rule.X3)
    (or_else (when (list_any (λ e. list_any (is_unknown info.link_props) (fields_of e)) es) rule.X6)
    (or_else (when (list_any (λ e. list_any (is_ill info.link_props) (fields_of e)) es) rule.X7)
    (when (is_lacking info.card es) rule.X8)))

abbrev pub repeat_flaw_of : List Head → Option ℕ → Option Flaw
repeat_flaw_of heads None = None
repeat_flaw_of heads (Some id) = Some (record { rule = rule.X11; other = place_of heads id })

-- X11, with the object that is a target twice
abbrev pub repeat_flaw : List Head → List Element → Option Flaw
repeat_flaw heads es = repeat_flaw_of heads (repeated [] (ids_of es))

-- the first of the rules that fails for what stands for a link
abbrev pub link_flaw : List TypeInfo → List Head → PtrInfo → TypeId → List Element → Option Flaw
link_flaw types heads info t es =
    or_else (option_map alone (target_flaw info es))
    (or_else (when (list_any (λ e. not (leads types heads t e)) es) (alone rule.X10)) (repeat_flaw heads es))
