-- What JSON values write of an object.
use Rattle.std.specs.Prelude.{ℕ, ℤ, Bool, List, [], ◌∷◌, codes, Option, Some, None, if◌then◌else◌}
use Rattle.std.specs.Str.{bytes_eq}
use Rattle.serde_json.specs.Data.{Data, null, boolean, number, string, array, object, Items, no_items, item, Members, no_members, member}
use Rattle.serde_json.specs.Find.{as_i64}
use Rattle.db_draft.specs.declared.draft.Draft.{Draft}
use Rattle.db_draft.specs.declared.draft.Draft.TheVariants as draft
use Rattle.db_draft.specs.declared.draft.Element.{Element}
use Rattle.db_draft.specs.declared.draft.Element.TheVariants as element
use Rattle.db_draft.specs.declared.draft.Field.{Field}
use Rattle.db_draft.specs.declared.draft.Member.{Member}
use Rattle.db_draft.specs.declared.draft.ObjectDraft.{ObjectDraft}
use Rattle.db_draft.specs.declared.draft.Plain.{Plain}
use Rattle.db_draft.specs.declared.draft.Plain.TheVariants as plain

-- a number is an integer of 64 bits, or another number
abbrev pub integer_of : Option ℤ → Plain
integer_of None = plain.Other
integer_of (Some z) = plain.Int z

abbrev pub plain_of : Data → Plain
plain_of null = plain.Null
plain_of (boolean b) = plain.Bool b
plain_of (number n) = integer_of (as_i64 n)
plain_of (string s) = plain.Str s
plain_of (array ds) = plain.Other
plain_of (object ms) = plain.Other

abbrev pub fields_of : Members → List Field
fields_of no_members = []
fields_of (member k d ms) = record { name = k; value = plain_of d } ∷ fields_of ms

abbrev pub element_of : Data → Element
element_of (object ms) = element.Object (fields_of ms)
element_of null = element.Plain plain.Null
element_of (boolean b) = element.Plain (plain.Bool b)
element_of (number n) = element.Plain (integer_of (as_i64 n))
element_of (string s) = element.Plain (plain.Str s)
element_of (array ds) = element.Plain plain.Other

abbrev pub elements_of : Items → List Element
elements_of no_items = []
elements_of (item d ds) = element_of d ∷ elements_of ds

abbrev pub draft_of : Data → Draft
draft_of (array ds) = draft.Array (elements_of ds)
draft_of (object ms) = draft.One (element.Object (fields_of ms))
draft_of null = draft.One (element.Plain plain.Null)
draft_of (boolean b) = draft.One (element.Plain (plain.Bool b))
draft_of (number n) = draft.One (element.Plain (integer_of (as_i64 n)))
draft_of (string s) = draft.One (element.Plain (plain.Str s))

abbrev pub is_type_key : List ℕ → Bool
is_type_key key = bytes_eq key (codes "type")

-- the pointer for which a key stands: one that is called `type` is written `.type`
abbrev pub pointer_of : List ℕ → List ℕ
pointer_of key = if bytes_eq key (codes ".type") then codes "type" else key

-- what stands under the names of pointers
abbrev pub members_of : Members → List Member
members_of no_members = []
members_of (member k d ms) = if is_type_key k then members_of ms else record { name = pointer_of k; value = draft_of d } ∷ members_of ms

-- what stands under the key `type`, and else what was found before
abbrev pub type_of : Option Draft → Members → Option Draft
type_of found no_members = found
type_of found (member k d ms) = type_of (if is_type_key k then Some (draft_of d) else found) ms

-- the object that a JSON object writes
abbrev pub object_of : Members → ObjectDraft
object_of ms = record { ty = type_of None ms; members = members_of ms }
