-- The printer's text of arrays and objects.
use Rattle.std.proofs.Common.{◌≡◌, ℕ, ◌+◌, ◌<◌, ◌||◌, Bool, true, false, List, [], ◌∷◌, ◌++◌, codes, map, length, take, get_or, String, string_bytes, string_cmp, nat_cmp, Vec, BTreeMap, true≢false, Ordering, Less, Equal, Greater, Global, refl, sym, ap, ◌∙◌, subst, append_assoc, add-one, ℤ, pos, negsuc, cond, rules, Result, IfOk}
use Rattle.std.specs.BTreeMap.{insert_entry}
use Rattle.std.specs.Cmp.Lexicographic.{slice_cmp}
use Rattle.std.specs.List.{join_with_byte}
use Rattle.std.specs.Ordering.{match_ordering}
use Rattle.std.proofs.lemmas.List.Sums.{fold-append}
use Rattle.json.specs.Print.{quoted}
use Rattle.std.specs.Fmt.{signed_decimal}
use Rattle.serde_json.specs.Data.{null, boolean, number, string}
use Rattle.serde_json.specs.Find.{of_integer}
use Rattle.serde_json.specs.View.{view, items_view, members_view}
use Rattle.serde_json.specs.Written.{compact_text, items_text, members_text, has_float, items_have_float, members_have_float}
use Rattle.serde_json.specs.declared.value.Value.{Value}
use Rattle.serde_json.specs.declared.value.Value as value
use Rattle.serde_json.proofs.Views.{view-Array, view-Object}
use Rattle.std.proofs.Math.Seq.{take-suc}
use Rattle.std.proofs.lemmas.List.{map-append}
use Rattle.ev_value.specs.JsonText.{Member, by_name, json_array, json_object, json_string, member_text}
use Rattle.ev_json.specs.Printed.{Entry, entry_text, any_float, IsPrinted, ArePrinted, HasMembers, Puts}
use Rattle.ev_json.proofs.Escapes.{quoted_is}

abbrev text_of : Value → List ℕ
text_of v = compact_text (view v)

-- a value of an array with those after it
items_after : (v : Value) (vs : List Value) → text_of v ++ items_text true (items_view vs) ≡ join_with_byte 44 (map text_of (v ∷ vs)) ++ 93 ∷ []
items_after v [] = refl
items_after v (w ∷ ws) = ap (λ t. text_of v ++ (44 ∷ t)) (items_after w ws) ∙ sym (append_assoc (text_of v) (44 ∷ join_with_byte 44 (map text_of (w ∷ ws))) (93 ∷ []))

pub array_text : (vs : List Value) → items_text false (items_view vs) ≡ join_with_byte 44 (map text_of vs) ++ 93 ∷ []
array_text [] = refl
array_text (v ∷ vs) = items_after v vs

abbrev member_of : Entry → List ℕ
member_of e = member_text (entry_text e)

-- a member of an object with those after it
members_after : (e : Entry) (es : List Entry) → json_string (string_bytes e.0) ++ 58 ∷ (text_of e.1 ++ members_text true (members_view es)) ≡ join_with_byte 44 (map member_text (map entry_text (e ∷ es))) ++ 125 ∷ []
members_after e [] = sym (ap (λ t. t ++ 125 ∷ []) (append_assoc (json_string (string_bytes e.0)) (58 ∷ []) (text_of e.1)) ∙ append_assoc (json_string (string_bytes e.0)) (58 ∷ text_of e.1) (125 ∷ []))
members_after e (f ∷ es) =
    let rest : List ℕ = join_with_byte 44 (map member_text (map entry_text (f ∷ es))) in
    let name : List ℕ = json_string (string_bytes e.0) in
    let after : quoted (string_bytes f.0) ++ 58 ∷ (text_of f.1 ++ members_text true (members_view es)) ≡ rest ++ 125 ∷ [] = ap (λ t. t ++ 58 ∷ (text_of f.1 ++ members_text true (members_view es))) (quoted_is (string_bytes f.0)) ∙ members_after f es in
    ap (λ t. name ++ 58 ∷ (text_of e.1 ++ 44 ∷ t)) after
    ∙ sym (ap (λ t. (t ++ 44 ∷ rest) ++ 125 ∷ []) (append_assoc name (58 ∷ []) (text_of e.1))
    ∙ append_assoc (name ++ 58 ∷ text_of e.1) (44 ∷ rest) (125 ∷ [])
    ∙ append_assoc name (58 ∷ text_of e.1) (44 ∷ (rest ++ 125 ∷ [])))

pub object_members : (es : List Entry) → members_text false (members_view es) ≡ join_with_byte 44 (map member_text (map entry_text es)) ++ 125 ∷ []
object_members [] = refl
object_members (e ∷ es) = ap (λ t. t ++ 58 ∷ (text_of e.1 ++ members_text true (members_view es))) (quoted_is (string_bytes e.0)) ∙ members_after e es

pub array_floats : (vs : List Value) → items_have_float (items_view vs) ≡ any_float vs
array_floats [] = refl
array_floats (v ∷ vs) = ap (λ b. has_float (view v) || b) (array_floats vs)

pub object_floats : (es : List Entry) → members_have_float (members_view es) ≡ any_float (map (λ e. e.1) es)
object_floats [] = refl
object_floats (e ∷ es) = ap (λ b. has_float (view e.1) || b) (object_floats es)

-- the value of an array whose elements are printed
pub printed_array : (v : Vec Value Global) (due : List (List ℕ)) → ArePrinted v.items due → IsPrinted (value.Array v) (json_array due)
printed_array v due h = record {
  text = ap compact_text (view-Array v) ∙ ap (λ t. 91 ∷ t) (array_text v.items) ∙ ap (λ ts. 91 ∷ (join_with_byte 44 ts ++ 93 ∷ [])) h.texts;
  whole = ap has_float (view-Array v) ∙ array_floats v.items ∙ h.whole;
}

-- the value of an object whose entries are these members
pub printed_object : (m : BTreeMap (String Global) Value) (due : List Member) → HasMembers m.entries due → IsPrinted (value.Object m) (json_object due)
printed_object m due h = record {
  text = ap compact_text (view-Object m) ∙ ap (λ t. 123 ∷ t) (object_members m.entries) ∙ ap (λ ts. 123 ∷ (join_with_byte 44 (map member_text ts) ++ 125 ∷ [])) h.texts;
  whole = ap has_float (view-Object m) ∙ object_floats m.entries ∙ h.whole;
}

at_order : (o : Ordering) (a b c : List Entry) → map entry_text (match_ordering o a b c) ≡ match_ordering o (map entry_text a) (map entry_text b) (map entry_text c)
at_order Less a b c = refl
at_order Equal a b c = refl
at_order Greater a b c = refl

pub inserted_text : (es : List Entry) (k : String Global) (v : Value) → map entry_text (insert_entry string_cmp es k v) ≡ insert_entry (slice_cmp nat_cmp) (map entry_text es) (string_bytes k) (text_of v)
inserted_text [] k v = refl
inserted_text (e ∷ es) k v = at_order (string_cmp k e.0) _ _ _ ∙ rw (inserted_text es k v)

abbrev pub any_member_float : List Entry → Bool
any_member_float es = any_float (map (λ e. e.1) es)

one_of : (a b : Bool) → (a || b) ≡ false → (a ≡ false) × (b ≡ false)
one_of true b e = absurd (true≢false e)
one_of false b e = (refl, e)

none_of : (a b : Bool) → a ≡ false → b ≡ false → (a || b) ≡ false
none_of a b e f = rw (e, f)

whole_at : (o : Ordering) (a b c : List Entry) → any_member_float a ≡ false → any_member_float b ≡ false → any_member_float c ≡ false → any_member_float (match_ordering o a b c) ≡ false
whole_at Less a b c ha hb hc = ha
whole_at Equal a b c ha hb hc = hb
whole_at Greater a b c ha hb hc = hc

pub inserted_whole : (es : List Entry) (k : String Global) (v : Value) → any_member_float es ≡ false → has_float (view v) ≡ false → any_member_float (insert_entry string_cmp es k v) ≡ false
inserted_whole [] k v h hv = none_of _ _ hv refl
inserted_whole (e ∷ es) k v h hv =
    let both : (has_float (view e.1) ≡ false) × (any_member_float es ≡ false) = one_of (has_float (view e.1)) (any_member_float es) h in
    whole_at (string_cmp k e.0) _ _ _ (none_of _ _ hv h) (none_of _ _ hv both.1) (none_of _ _ both.0 (inserted_whole es k v both.1 hv))

-- the members with one more
pub by_name_more : (ms : List Member) (m : Member) → by_name (ms ++ m ∷ []) ≡ insert_entry (slice_cmp nat_cmp) (by_name ms) m.0 m.1
by_name_more ms m = fold-append (λ done m. insert_entry (slice_cmp nat_cmp) done m.0 m.1) [] ms (m ∷ [])

floats_more : (vs : List Value) (v : Value) → any_float vs ≡ false → has_float (view v) ≡ false → any_float (vs ++ v ∷ []) ≡ false
floats_more [] v h hv = none_of _ _ hv refl
floats_more (w ∷ ws) v h hv = let both : (has_float (view w) ≡ false) × (any_float ws ≡ false) = one_of (has_float (view w)) (any_float ws) h in none_of _ _ both.0 (floats_more ws v both.1 hv)

-- the texts of a list with one more
texts_more : {A B : Type 0} (f : A → B) (xs : List A) (i : ℕ) (d : A) → i < length xs → map f (take (i + 1) xs) ≡ map f (take i xs) ++ f (get_or xs i d) ∷ []
texts_more f xs i d h = rw add-one (ap (map f) (take-suc xs i d h) ∙ map-append f (take i xs) (get_or xs i d ∷ []))

pub printed_more : {A : Type 0} (f : A → List ℕ) (xs : List A) (i : ℕ) (x : A) (vs : List Value) (v : Value) → i < length xs → x ≡ get_or xs i x → ArePrinted vs (map f (take i xs)) → IsPrinted v (f x) → ArePrinted (vs ++ v ∷ []) (map f (take (i + 1) xs))
printed_more f xs i x vs v within is h one = record {
  texts = map-append text_of vs (v ∷ []) ∙ ap (λ t. map text_of vs ++ t ∷ []) one.text ∙ ap (λ ts. ts ++ f x ∷ []) h.texts ∙ ap (λ y. map f (take i xs) ++ f y ∷ []) is ∙ sym (texts_more f xs i x within);
  whole = floats_more vs v h.whole one.whole;
}

pub printed_string : (s : String Global) (due : List ℕ) → string_bytes s ≡ due → IsPrinted (value.String s) (json_string due)
printed_string s due e = record { text = ap compact_text (view-String s) ∙ quoted_is (string_bytes s) ∙ ap json_string e; whole = ap has_float (view-String s) }
  where
    view-String : (s : String Global) → view (value.String s) ≡ string (string_bytes s)
    view-String s = search (rules, value.the_lemmas)

pub printed_number : (v : Value) (z : ℤ) → view v ≡ number (of_integer z) → IsPrinted v (signed_decimal z)
printed_number v (pos n) e = record { text = ap compact_text e; whole = ap has_float e }
printed_number v (negsuc n) e = record { text = ap compact_text e; whole = ap has_float e }

pub printed_bool : (b : Bool) → IsPrinted (value.Bool b) (cond b (codes "true") (codes "false"))
printed_bool true = record { text = ap compact_text seen; whole = ap has_float seen }
  where
    seen : view (value.Bool true) ≡ boolean true
    seen = search (rules, value.the_lemmas)
printed_bool false = record { text = ap compact_text seen; whole = ap has_float seen }
  where
    seen : view (value.Bool false) ≡ boolean false
    seen = search (rules, value.the_lemmas)

pub printed_null : IsPrinted value.Null (codes "null")
printed_null = record { text = ap compact_text seen; whole = ap has_float seen }
  where
    seen : view value.Null ≡ null
    seen = search (rules, value.the_lemmas)

pub puts_one : (old : BTreeMap (String Global) Value) (es : List Entry) (k : String Global) (name : List ℕ) (v : Value) → string_bytes k ≡ name → es ≡ insert_entry string_cmp old.entries k v → Puts old.entries es name v
puts_one old es k name v e is = record {
  texts = ap (map entry_text) is ∙ inserted_text old.entries k v ∙ ap (λ n. insert_entry (slice_cmp nat_cmp) (map entry_text old.entries) n (text_of v)) e;
  whole = λ h hv. ap any_member_float is ∙ inserted_whole old.entries k v h hv;
}

-- one member in an object that was empty
pub printed_member : (m n : BTreeMap (String Global) Value) (name : List ℕ) (v : Value) (due : List ℕ) → m.entries ≡ [] → Puts m.entries n.entries name v → IsPrinted v due → IsPrinted (value.Object n) (json_object ((name, due) ∷ []))
printed_member m n name v due e puts one = printed_object n ((name, due) ∷ []) (record {
  texts = puts.texts ∙ ap (λ es. insert_entry (slice_cmp nat_cmp) (map entry_text es) name (text_of v)) e ∙ ap (λ t. (name, t) ∷ []) one.text;
  whole = puts.whole (ap any_member_float e) one.whole;
})

pub if_printed : {E : Type 0} (r : Result Value E) (due other : List ℕ) → other ≡ due → IfOk r (λ v. IsPrinted v due) → IfOk r (λ v. IsPrinted v other)
if_printed r due other e h = subst (λ d. IfOk r (λ v. IsPrinted v d)) (sym e) h
