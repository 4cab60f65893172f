-- The JSON text of values and nested forms: compact (RFC 8259), in UTF-8.
use Rattle.std.specs.Prelude.{◌≡◌, ℕ, ◌/◌, ◌%◌, ◌==◌, nat_lt, if◌then◌else◌, List, [], ◌∷◌, ◌++◌, map, flat_map, fold, codes, Option, Some, None}
use Rattle.std.specs.BTreeMap.{insert_entry}
use Rattle.std.specs.Char.{digit_char}
use Rattle.std.specs.Cmp.Lexicographic.{slice_cmp}
use Rattle.std.specs.Fmt.{signed_decimal}
use Rattle.std.specs.Int.{w128, to_be_bytes}
use Rattle.std.specs.List.{join_with_byte}
use Rattle.std.specs.declared.cmp.Ordering.TheVariants.{Less}
use Rattle.std.specs.Ordering.{nat_cmp}
use Rattle.std.specs.Str.{bytes_eq}
use Rattle.uuid.specs.Text.{hyphenated_text, lower}
use Rattle.ev_value.specs.declared.nested.Field.{Field}
use Rattle.ev_value.specs.declared.nested.Nested.{Nested, fold-Nested}
use Rattle.ev_value.specs.declared.nested.Nested.TheOpen.{Nested-F, Field-F}
use Rattle.ev_value.specs.declared.value.Val.{Val, fold-Val}
use Rattle.ev_value.specs.declared.value.Val.TheOpen.{Val-F}

-- what stands between quotes for a byte: a quote, a backslash and a control byte are escaped
abbrev pub escaped : ℕ → List ℕ
escaped b =
    if b == 34 then codes "\\\""
    else if b == 92 then codes "\\\\"
    else if b == 8 then codes "\\b"
    else if b == 12 then codes "\\f"
    else if b == 10 then codes "\\n"
    else if b == 13 then codes "\\r"
    else if b == 9 then codes "\\t"
    else if nat_lt b 32 then codes "\\u00" ++ digit_char (b / 16) ∷ digit_char (b % 16) ∷ []
    else b ∷ []

-- a text between quotes
abbrev pub json_string : List ℕ → List ℕ
json_string s = codes "\"" ++ flat_map escaped s ++ codes "\""

-- texts between brackets, with commas
abbrev pub json_array : List (List ℕ) → List ℕ
json_array items = codes "[" ++ join_with_byte 44 items ++ codes "]"

-- a name with the text of its value
abbrev pub Member : Type 0
Member = List ℕ × List ℕ

-- a member as it stands in an object
abbrev pub member_text : Member → List ℕ
member_text m = json_string m.0 ++ codes ":" ++ m.1

-- the members in the byte order of their names; of members with one name the last counts
abbrev pub by_name : List Member → List Member
by_name = fold (λ done m. insert_entry (slice_cmp nat_cmp) done m.0 m.1) []

-- each name is less by its bytes than the next
abbrev pub NamesRise : List Member → Type 0
NamesRise [] = Unit {0}
NamesRise (m ∷ []) = Unit {0}
NamesRise (m ∷ n ∷ more) = (slice_cmp nat_cmp m.0 n.0 ≡ Less) × NamesRise (n ∷ more)

-- the text of the first member with a name
abbrev pub first_named : List ℕ → List Member → Option (List ℕ)
first_named name [] = None
first_named name (m ∷ more) = if bytes_eq m.0 name then Some m.1 else first_named name more

-- a text, or another where there is none
abbrev pub or_text : Option (List ℕ) → Option (List ℕ) → Option (List ℕ)
or_text (Some t) other = Some t
or_text None other = other

-- the text of the last member with a name
abbrev pub last_named : List ℕ → List Member → Option (List ℕ)
last_named name [] = None
last_named name (m ∷ more) = or_text (last_named name more) (if bytes_eq m.0 name then Some m.1 else None)

-- an object's names rise, so each stands once, and each has the last text that it was given
pub record NamesAreOrdered : Type 0 where
  pub rise : (ms : List Member) → NamesRise (by_name ms)
  pub keep : (name : List ℕ) (ms : List Member) → first_named name (by_name ms) ≡ last_named name ms

-- members between braces, with commas
abbrev pub json_object : List Member → List ℕ
json_object members = codes "{" ++ join_with_byte 44 (map member_text (by_name members)) ++ codes "}"

-- a uuid in lower case with hyphens; its number writes the sixteen bytes, the highest first
abbrev pub id_text : ℕ → List ℕ
id_text n = hyphenated_text lower (to_be_bytes w128 n)

-- the text of a value whose components have these texts
abbrev pub value_step : Val-F (List ℕ) → List ℕ
value_step (Val-F.Int z) = signed_decimal z
value_step (Val-F.Str s) = json_string s
value_step (Val-F.Bool b) = if b then codes "true" else codes "false"
value_step (Val-F.Id n) = json_string (id_text n)
value_step (Val-F.Obj n) = json_object ((codes "id", json_string (id_text n)) ∷ [])
value_step (Val-F.Tuple parts) = json_array parts
value_step (Val-F.Array elements) = json_array elements

-- the JSON text of a value: an object without a shape is written as its id
unfoldable pub value_text : Val → List ℕ
value_text = fold-Val (List ℕ) value_step

-- the text of a form whose parts have these texts
abbrev pub form_step : Nested-F (List ℕ) Member → List ℕ
form_step Nested-F.Null = codes "null"
form_step (Nested-F.Scalar v) = value_text v
form_step (Nested-F.Array forms) = json_array forms
form_step (Nested-F.Object fields) = json_object fields

-- a field whose form has this text
abbrev pub field_step : Field-F (List ℕ) Member → Member
field_step f = (f.name, f.form)

-- the JSON text of a nested form
unfoldable pub json_text : Nested → List ℕ
json_text = fold-Nested (List ℕ) Member form_step field_step

-- a field as a member of the object's text
abbrev pub field_text : Field → Member
field_text f = (f.name, json_text f.form)
