-- The elements of a value of each kind, as the code makes the value.
use Rattle.std.proofs.Common.{◌≡◌, ℕ, ℤ, List, [], ◌∷◌, Bool, false, cond, refl, ap, ◌∙◌, append-nil}
use Rattle.ev_value.specs.declared.value.Val.{Val}
use Rattle.ev_value.specs.declared.value.Val.TheVariants as val
use Rattle.ev_value.specs.declared.value.Val.TheBlock as block
use denote.Hole.Carrier as carrier
use Rattle.ev_value.proofs.Items.{append_nil, all_of_values}
use Rattle.ev_value.specs.Item.{one, all_of, has_fault, faults, values, only_faults}
use Rattle.ev_value.specs.declared.item.Item.{Item}
use Rattle.core_ir.specs.declared.tree.SetFunction.TheVariants as function
use Rattle.eql_sem.specs.Operations.{elements_of, values_in_row, of_set, unpacked}

row : (vs : List Val) → values_in_row (block.hidden-the_row-Val-0 vs) ≡ vs
unfolding carrier.hidden block.hidden-the_row-Val-0
row [] = refl
row (v ∷ vs) = ap (λ l. v ∷ l) (row vs)

pub elements_of_array : (vs : List Val) → elements_of (val.Array vs) ≡ vs
unfolding elements_of
elements_of_array vs = row vs

pub elements_of_int : (n : ℤ) → elements_of (val.Int n) ≡ []
unfolding elements_of
elements_of_int n = refl

pub elements_of_str : (s : List ℕ) → elements_of (val.Str s) ≡ []
unfolding elements_of
elements_of_str s = refl

pub elements_of_bool : (t : Bool) → elements_of (val.Bool t) ≡ []
unfolding elements_of
elements_of_bool t = refl

pub elements_of_id : (n : ℕ) → elements_of (val.Id n) ≡ []
unfolding elements_of
elements_of_id n = refl

pub elements_of_obj : (n : ℕ) → elements_of (val.Obj n) ≡ []
unfolding elements_of
elements_of_obj n = refl

pub elements_of_tuple : (vs : List Val) → elements_of (val.Tuple vs) ≡ []
unfolding elements_of carrier.hidden block.hidden-the_row-Val-0
elements_of_tuple vs = refl

pub ruleset elements_of_each = (append-nil, elements_of_array, elements_of_int, elements_of_str, elements_of_bool, elements_of_id, elements_of_obj, elements_of_tuple)

pub packed_is_unpacked : (xs : List (Item Val)) → has_fault xs ≡ false → unpacked (of_set function.ArrayAgg xs) ≡ xs
packed_is_unpacked xs clean =
    ap (λ t. unpacked (cond t (only_faults (faults xs)) (one (val.Array (values xs))))) clean
    ∙ append_nil (all_of (elements_of (val.Array (values xs))))
    ∙ ap all_of (elements_of_array (values xs))
    ∙ all_of_values xs clean
