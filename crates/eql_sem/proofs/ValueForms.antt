-- The form of a value of each kind, as the code makes the value.
use Rattle.std.proofs.Common.{◌≡◌, ℕ, ℤ, List, [], ◌∷◌, Bool, map, refl, ap}
use Rattle.ev_value.specs.declared.value.Val.{Val}
use Rattle.ev_value.specs.declared.value.Val.TheVariants as val
use Rattle.ev_value.specs.declared.value.Val.TheBlock as block
use denote.Hole.Carrier as carrier
use Rattle.eql_sem.specs.Forms.{form_of, forms_in}
use Rattle.eql_sem.specs.declared.form.Form.TheVariants as form

forms_row : (vs : List Val) → forms_in (block.hidden-the_row-Val-0 vs) ≡ map form_of vs
unfolding form_of carrier.hidden block.hidden-the_row-Val-0
forms_row [] = refl
forms_row (v ∷ vs) = ap (λ l. form_of v ∷ l) (forms_row vs)

pub form_of_tuple : (vs : List Val) → form_of (val.Tuple vs) ≡ form.Tuple (map form_of vs)
unfolding form_of
form_of_tuple vs = ap form.Tuple (forms_row vs)

pub form_of_int : (n : ℤ) → form_of (val.Int n) ≡ form.Value (val.Int n)
unfolding form_of
form_of_int n = refl

pub form_of_str : (s : List ℕ) → form_of (val.Str s) ≡ form.Value (val.Str s)
unfolding form_of
form_of_str s = refl

pub form_of_bool : (t : Bool) → form_of (val.Bool t) ≡ form.Value (val.Bool t)
unfolding form_of
form_of_bool t = refl

pub form_of_id : (n : ℕ) → form_of (val.Id n) ≡ form.Value (val.Id n)
unfolding form_of
form_of_id n = refl

pub form_of_obj : (n : ℕ) → form_of (val.Obj n) ≡ form.Value (val.Obj n)
unfolding form_of
form_of_obj n = refl

pub form_of_array : (vs : List Val) → form_of (val.Array vs) ≡ form.Value (val.Array vs)
unfolding form_of carrier.hidden block.hidden-the_row-Val-0
form_of_array vs = refl

pub ruleset form_of_each = (form_of_tuple, form_of_int, form_of_str, form_of_bool, form_of_id, form_of_obj, form_of_array)
