-- The JSON text of each form of a value and of a nested form.
use Rattle.std.proofs.Common.{◌≡◌, ℕ, ℤ, Bool, List, [], ◌∷◌, map, codes, cond, rules}
use Rattle.std.specs.Fmt.{signed_decimal}
use Rattle.ev_value.specs.JsonText.{json_string, json_array, json_object, id_text, value_text, json_text, field_text}
use Rattle.ev_value.specs.declared.nested.Field.{Field}
use Rattle.ev_value.specs.declared.nested.Nested as nested
use Rattle.ev_value.specs.declared.nested.Nested.TheVariants.{Null, Scalar, Array, Object}
use Rattle.ev_value.specs.declared.value.Val as val
use Rattle.ev_value.specs.declared.value.Val.TheVariants.{Int, Str, Id, Obj, Tuple}
use Rattle.ev_value.specs.declared.value.Val.TheVariants as value

pub int_text : (z : ℤ) → value_text (Int z) ≡ signed_decimal z
unfolding value_text
int_text z = search (rules, val.the_lemmas)

pub str_text : (s : List ℕ) → value_text (Str s) ≡ json_string s
unfolding value_text
str_text s = search (rules, val.the_lemmas)

pub bool_text : (b : Bool) → value_text (value.Bool b) ≡ cond b (codes "true") (codes "false")
unfolding value_text
bool_text b = search (rules, val.the_lemmas)

pub uuid_text : (n : ℕ) → value_text (Id n) ≡ json_string (id_text n)
unfolding value_text
uuid_text n = search (rules, val.the_lemmas)

pub obj_text : (n : ℕ) → value_text (Obj n) ≡ json_object ((codes "id", json_string (id_text n)) ∷ [])
unfolding value_text
obj_text n = search (rules, val.the_lemmas)

pub tuple_text : (vs : List val.Val) → value_text (Tuple vs) ≡ json_array (map value_text vs)
unfolding value_text
tuple_text vs = search (rules, val.the_lemmas)

pub elements_text : (vs : List val.Val) → value_text (value.Array vs) ≡ json_array (map value_text vs)
unfolding value_text
elements_text vs = search (rules, val.the_lemmas)

pub null_text : json_text Null ≡ codes "null"
unfolding json_text
null_text = search (rules, nested.the_lemmas)

pub scalar_text : (v : val.Val) → json_text (Scalar v) ≡ value_text v
unfolding json_text
scalar_text v = search (rules, nested.the_lemmas)

pub array_text : (fs : List nested.Nested) → json_text (Array fs) ≡ json_array (map json_text fs)
unfolding json_text
array_text fs = search (rules, nested.the_lemmas)

pub object_text : (fs : List Field) → json_text (Object fs) ≡ json_object (map field_text fs)
unfolding json_text
object_text fs = search (rules, nested.the_lemmas)
