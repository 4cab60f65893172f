-- What operators make of lists that are the same, and of which kinds that is.
use Rattle.std.proofs.Common.{◌≡◌, IsTrue, ℕ, suc, Bool, cond, Option, Some, None, List, [], ◌∷◌, map, refl, ap}
use Rattle.std.specs.List.{list_any}
use Rattle.ev_value.specs.Item.{bind, one, all_of, values, EachValue}
use Rattle.ev_value.specs.Operator.{item_of_op, bool_item}
use Rattle.ev_value.specs.Casts.{item_of_cast}
use Rattle.ev_value.specs.declared.item.Item.{Item}
use Rattle.ev_value.specs.declared.operator.Op.{Op}
use Rattle.ev_value.specs.declared.value.ScalarTy.{ScalarTy}
use Rattle.ev_value.specs.declared.value.Val.{Val}
use Rattle.ev_value.specs.declared.value.Val as val
use Rattle.ev_value.specs.declared.value.Val.TheVariants as made
use Rattle.ev_value.proofs.Items.{each_bind}
use Rattle.ev_list.specs.Aggregate.{is_true}
use Rattle.core_ir.specs.declared.tree.Expr.{Row_of-Expr, end_of-Expr, more_of-Expr}
use Rattle.core_ir.specs.declared.tree.SetFunction.{SetFunction}
use Rattle.eql_sem.specs.declared.form.Form.{Form}
use Rattle.eql_sem.specs.declared.form.Form.TheVariants as made_form
use Rattle.eql_sem.specs.declared.form.Form.TheBlock as shapes
use Rattle.eql_sem.specs.declared.form.Formed.{Formed}
use denote.Hole.Carrier as carrier
use Rattle.eql_sem.specs.Forms.{form_of, forms_in, bare, strip, dress}
use Rattle.eql_sem.specs.Operations.{product, operated, cast_to, tuple_of, tupled, turned, same, or_empty, same_place, equal_places, optional_equal, member_items, in_set, optional, of_values, of_set, is_empty, coalesced, branch_items, chosen, arrayed, values_in_row, elements_of, unpacked}
use Rattle.eql_agree.specs.Kinds.{Kinds, Along, components_of, Of, AreParts, AreSound}
use Rattle.eql_agree.specs.Kinded.{part_kinds}
use Rattle.eql_agree.specs.Agreeing.{Same, IfThere, InForm, InForms, InItem}
use Rattle.eql_agree.proofs.Lists.{True, each_true, each_all_of, each_values, each_weaker, each_cond, each_collect, same_bind, SameAlong, product_same}

module _ {K : Type 0} (k : Kinds K) where
  pub strip_same : (t : K) (xs ys : List (Item Formed)) → Same (InItem k t) xs ys → Same (Of k t) (strip xs) (strip ys)
  strip_same t xs ys p = same_bind (InItem k t) (Of k t) xs ys (λ x. one x.value) (λ x. one x.value) p (λ x q. (refl, (q.0, tt)))

  pub strip_along : (us : List K) (xss yss : List (List (Item Formed))) → SameAlong (InItem k) us xss yss → SameAlong (Of k) us (map strip xss) (map strip yss)
  strip_along [] [] [] h = tt
  strip_along (u ∷ us) (xs ∷ xss) (ys ∷ yss) h = (strip_same u xs ys h.0, strip_along us xss yss h.1)
  strip_along [] [] (ys ∷ yss) h = absurd h
  strip_along [] (xs ∷ xss) yss h = absurd h
  strip_along (u ∷ us) [] yss h = absurd h
  strip_along (u ∷ us) (xs ∷ xss) [] h = absurd h

  -- ---- tuples

  abbrev pub AreForms : K → ℕ → List Form → Type 0
  AreForms t i [] = Unit {0}
  AreForms t i (f ∷ fs) = InForm k (k.rules.part t i) f × AreForms t (suc i) fs

  in_forms : (t : K) (i : ℕ) (fs : List Form) → AreForms t i fs → InForms k t i (shapes.hidden-the_row-Form-0 fs)
  unfolding InForm carrier.hidden shapes.hidden-the_row-Form-0
  in_forms t i [] h = tt
  in_forms t i (f ∷ fs) h = (h.0, in_forms t (suc i) fs h.1)

  pub in_tuple : (t : K) (fs : List Form) → AreForms t 0 fs → InForm k t (made_form.Tuple fs)
  unfolding InForm
  in_tuple t fs h = in_forms t 0 fs h

  along_values : (us : List K) (xs : List Formed) → Along (InItem k) us xs → Along (Of k) us (map (λ (x : Formed). x.value) xs)
  along_values [] [] h = tt
  along_values (u ∷ us) (x ∷ xs) h = (h.0.0, along_values us xs h.1)
  along_values [] (x ∷ xs) h = absurd h
  along_values (u ∷ us) [] h = absurd h

  along_forms : {m : _} (parts : Row_of-Expr m) (t : K) (i : ℕ) (xs : List Formed) → Along (InItem k) (part_kinds k.rules parts t i) xs → AreForms t i (map (λ (x : Formed). x.form) xs)
  along_forms end_of-Expr t i [] h = tt
  along_forms (more_of-Expr y rest) t i (x ∷ xs) h = (h.0.1, along_forms rest t (suc i) xs h.1)
  along_forms end_of-Expr t i (x ∷ xs) h = absurd h
  along_forms (more_of-Expr y rest) t i [] h = absurd h

  -- ---- operators

  module _ (sound : AreSound k) where
    -- the own form of a value of a kind
    mutual
      unfolding InForm form_of components_of

      own_form : (t : K) (v : Val) → Of k t v → InForm k t (form_of v)
      own_form t (val.Tuple' m vs) h = in_tuple t (forms_in vs) (own_forms t 0 vs (sound.components t (val.Tuple' m vs) h))
      own_form t (val.Int z) h = h
      own_form t (val.Str s) h = h
      own_form t (val.Bool b) h = h
      own_form t (val.Id n) h = h
      own_form t (val.Obj n) h = h
      own_form t (val.Array' _ vs) h = h

      own_forms : {m : _} (t : K) (i : ℕ) (vs : val.Row_of-Val m) → AreParts k t i (values_in_row vs) → AreForms t i (forms_in vs)
      own_forms t i val.end_of-Val h = tt
      own_forms t i (val.more_of-Val v rest) h = (own_form (k.rules.part t i) v h.0, own_forms t (suc i) rest h.1)

    pub dress_same : (t : K) (xs ys : List (Item Val)) → Same (Of k t) xs ys → Same (InItem k t) (dress xs) (dress ys)
    dress_same t xs ys p = same_bind (Of k t) (InItem k t) xs ys (λ v. one (bare v)) (λ v. one (bare v)) p (λ v q. (refl, ((q, own_form t v q), tt)))

    pub widened_same : (u t : K) (xs ys : List (Item Val)) → IsTrue (k.rules.widens u t) → Same (Of k u) xs ys → Same (Of k t) xs ys
    widened_same u t xs ys h p = (p.0, each_weaker (Of k u) (Of k t) xs (λ v. sound.widening u t v h) p.1)

    pub tupled_same : {m : _} (parts : Row_of-Expr m) (t : K) (xss yss : List (List (Item Formed))) → IsTrue (k.rules.tuple (part_kinds k.rules parts t 0) t)
        → SameAlong (InItem k) (part_kinds k.rules parts t 0) xss yss → Same (InItem k t) (tupled xss) (tupled yss)
    tupled_same parts t xss yss h p =
        let us = part_kinds k.rules parts t 0 in
        same_bind (Along (InItem k) us) (InItem k t) (product xss) (product yss) (λ xs. one (tuple_of xs)) (λ xs. one (tuple_of xs)) (product_same (InItem k) us xss yss p)
        (λ xs q. (refl, ((sound.tuples us t (map (λ (x : Formed). x.value) xs) h (along_values us xs q), in_tuple t (map (λ (x : Formed). x.form) xs) (along_forms parts t 0 xs q)), tt)))

    pub operated_same : (op : Op) (us : List K) (t : K) (xss yss : List (List (Item Val))) → IsTrue (k.rules.operation op us t) → SameAlong (Of k) us xss yss → Same (Of k t) (operated op xss) (operated op yss)
    operated_same op us t xss yss h p =
        same_bind (Along (Of k) us) (Of k t) (product xss) (product yss) (λ vs. item_of_op op vs ∷ []) (λ vs. item_of_op op vs ∷ []) (product_same (Of k) us xss yss p) (λ vs q. (refl, sound.operations op us t vs h q))

    pub cast_same : (ty : ScalarTy) (u t : K) (xs ys : List (Item Val)) → IsTrue (k.rules.cast ty u t) → Same (Of k u) xs ys → Same (Of k t) (cast_to ty xs) (cast_to ty ys)
    cast_same ty u t xs ys h p = same_bind (Of k u) (Of k t) xs ys (λ v. item_of_cast ty v ∷ []) (λ v. item_of_cast ty v ∷ []) p (λ v q. (refl, sound.casts ty u t v h q))

    pub arrayed_same : (us : List K) (t : K) (xss yss : List (List (Item Val))) → IsTrue (k.rules.array us t) → SameAlong (Of k) us xss yss → Same (Of k t) (arrayed xss) (arrayed yss)
    arrayed_same us t xss yss h p =
        same_bind (Along (Of k) us) (Of k t) (product xss) (product yss) (λ vs. one (made.Array vs)) (λ vs. one (made.Array vs)) (product_same (Of k) us xss yss p) (λ vs q. (refl, (sound.arrays us t vs h q, tt)))

    pub unpacked_same : (u t : K) (xs ys : List (Item Val)) → IsTrue (k.rules.element u t) → Same (Of k u) xs ys → Same (Of k t) (unpacked xs) (unpacked ys)
    unpacked_same u t xs ys h p =
        same_bind (Of k u) (Of k t) xs ys (λ v. all_of (elements_of v)) (λ v. all_of (elements_of v)) p (λ v q. (refl, each_all_of (Of k t) (elements_of v) (sound.elements u t v h q)))

    each_truth : {A : Type 0} (t : K) (xs : List (Item A)) (f : A → Bool) → IsTrue (k.rules.truth t) → EachValue (Of k t) (bind xs (λ x. bool_item (f x) ∷ []))
    each_truth t xs f h = each_bind True (Of k t) xs (λ x. bool_item (f x) ∷ []) (each_true xs) (λ x q. (sound.truths t (f x) h, tt))

    pub equal_same : (t : K) (negated : Bool) (xs xs' ys ys' : List (Item Val)) → IsTrue (k.rules.truth t) → xs ≡ xs' → ys ≡ ys' → Same (Of k t) (optional_equal negated xs ys) (optional_equal negated xs' ys')
    equal_same t negated xs xs' ys ys' h p q = (
      (λ i. optional_equal negated (p i) (q i)),
      each_bind True (Of k t) (or_empty xs) (λ x. equal_places negated x (or_empty ys)) (each_true (or_empty xs)) (λ x r. each_truth t (or_empty ys) (λ y. turned negated (same_place x y)) h),
    )

    pub in_same : (t : K) (negated : Bool) (xs xs' ys ys' : List (Item Val)) → IsTrue (k.rules.truth t) → xs ≡ xs' → ys ≡ ys' → Same (Of k t) (in_set negated xs ys) (in_set negated xs' ys')
    in_same t negated xs xs' ys ys' h p q =
        ((λ i. in_set negated (p i) (q i)), each_collect (Of k t) (member_items negated xs) ys (each_truth t xs (λ x. turned negated (list_any (same x) (values ys))) h))

    pub of_set_same : (f : SetFunction) (u t : K) (xs ys : List (Item Val)) → IsTrue (k.rules.function f u t) → Same (Of k u) xs ys → Same (Of k t) (of_set f xs) (of_set f ys)
    of_set_same f u t xs ys h p = (ap (of_set f) p.0, each_collect (Of k t) (of_values f) xs (sound.functions f u t (values xs) h (each_values (Of k u) xs p.1)))

  pub coalesced_same : (t : K) (xs xs' ys ys' : List (Item Val)) → Same (Of k t) xs xs' → Same (Of k t) ys ys' → Same (Of k t) (coalesced xs ys) (coalesced xs' ys')
  coalesced_same t xs xs' ys ys' p q = (
    (λ i. coalesced (p.0 i) (q.0 i)),
    each_collect (Of k t) (λ vs. cond (is_empty vs) ys (all_of vs)) xs (each_cond (Of k t) (is_empty (values xs)) ys (all_of (values xs)) q.1 (each_all_of (Of k t) (values xs) (each_values (Of k t) xs p.1))),
  )

  pub branch_same : (t : K) (cs cs' xs xs' ys ys' : List (Item Val)) → cs ≡ cs' → Same (Of k t) xs xs' → Same (Of k t) ys ys' → Same (Of k t) (chosen cs xs ys) (chosen cs' xs' ys')
  branch_same t cs cs' xs xs' ys ys' e p q = (
    (λ i. chosen (e i) (p.0 i) (q.0 i)),
    each_collect (Of k t) (λ cs. branch_items cs xs ys) cs
        (each_bind True (Of k t) (all_of (values cs)) (λ c. cond (is_true c) xs ys) (each_true (all_of (values cs))) (λ c r. each_cond (Of k t) (is_true c) xs ys p.1 q.1)),
  )

  each_optional : (t : K) (o : Option Val) → IfThere (Of k t) o → EachValue (Of k t) (optional o)
  each_optional t None h = tt
  each_optional t (Some v) h = (h, tt)

  pub optional_same : (t : K) (o o' : Option Val) → (o ≡ o') × IfThere (Of k t) o → Same (Of k t) (optional o) (optional o')
  optional_same t o o' h = (ap optional h.0, each_optional t o h.1)
