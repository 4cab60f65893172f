-- Values that no operator leads out of are a kind of their own.
use Rattle.std.proofs.Common.{IsTrue, ℕ, suc, ℤ, pos, neg_ℤ, ◌+ℤ◌, ◌-ℤ◌, ◌*ℤ◌, ◌&&◌, ◌||◌, not, Bool, true, false, cond, Option, Some, None, List, [], ◌∷◌, ◌++◌, length, filter, option_map, option_and_then, sym, subst}
use Rattle.std.specs.List.{list_any, list_all}
use Rattle.std.specs.Ordering.{int_eq, is_eq, is_ne, is_lt, is_le, is_gt, is_ge}
use Rattle.std.specs.Str.{chars, bytes_eq}
use Rattle.std.specs.Prelude.{codes}
use Rattle.std.specs.Fmt.{signed_decimal}
use Rattle.std.specs.Int.{w128, from_be_bytes}
use Rattle.uuid.specs.Text.{parsed}
use Rattle.ev_value.specs.JsonText.{id_text}
use Rattle.ev_value.specs.Casts.{int64_in, number_written, truth_written, id_written, read_item, item_of_cast}
use Rattle.ev_value.specs.Division.{floor_quotient, floor_rest}
use Rattle.ev_value.specs.Item.{EachValue}
use Rattle.ev_value.specs.Operator.{is_int64, int_item, bool_item, fitting, numbers_in, number_in, texts_in, text_in, truths_in, truth_in as truth_of, order_in, divided, item_of_op}
use Rattle.ev_value.specs.Order.{val_cmp}
use Rattle.ev_value.specs.declared.item.Fault.{Fault}
use Rattle.ev_value.specs.declared.item.Fault.TheVariants as fault
use Rattle.ev_value.specs.declared.item.Item.{Item}
use Rattle.ev_value.specs.declared.item.Item.TheVariants as item
use Rattle.ev_value.specs.declared.operator.Op.{Op}
use Rattle.ev_value.specs.declared.operator.Op.TheVariants as op
use Rattle.ev_value.specs.declared.value.ScalarTy.{ScalarTy}
use Rattle.ev_value.specs.declared.value.ScalarTy.TheVariants as ty
use Rattle.ev_value.specs.declared.value.Val.{Val}
use Rattle.ev_value.specs.declared.value.Val as val
use Rattle.ev_value.specs.declared.value.Val.TheVariants as made
use Rattle.ev_value.specs.declared.value.Val.TheBlock as vals
use denote.Hole.Carrier as carrier
use Rattle.ev_list.specs.Aggregate.{total, lesser, greater, with_rest, least, greatest, is_true}
use Rattle.ev_list.specs.Occurrence.{distinct}
use Rattle.ev_list.specs.Single.{single_fault, exists_fault, distinct_fault}
use Rattle.core_ir.specs.declared.tree.SetFunction.{SetFunction}
use Rattle.core_ir.specs.declared.tree.SetFunction.TheVariants as function
use Rattle.eql_sem.specs.Operations.{same, optional, asserted, is_empty, of_values}
use Rattle.eql_agree.specs.Kinds.{Each, Along, components_of, Of, AreParts, AreSound}
use Rattle.eql_agree.specs.Agreeing.{IfThere}
use Rattle.eql_agree.specs.Uniform.{Asked, uniform, IsArray, IsClosed}
use Rattle.eql_sem.proofs.Elements.{elements_of_array}
use Rattle.eql_agree.proofs.Lists.{each_all_of}

module _ (p : Val → Bool) where
  abbrev pub In : Val → Type 0
  In v = IsTrue (p v)

  -- ---- functions of sets

  pub optional_in : (o : Option Val) → IfThere In o → EachValue (λ v. IsTrue (p v)) (optional o)
  optional_in None h = tt
  optional_in (Some v) h = (h, tt)

  pub rest_in : (f : Val → Val → Val) → ((v w : Val) → In v → In w → In (f v w)) → (v : Val) (o : Option Val) → In v → IfThere In o → IfThere In (with_rest f v o)
  rest_in f g v None h r = h
  rest_in f g v (Some w) h r = g v w h r

  pub cond_in : (b : Bool) (v w : Val) → In v → In w → In (cond b v w)
  cond_in true v w h r = h
  cond_in false v w h r = r

  pub least_in : (vs : List Val) → Each In vs → IfThere In (least vs)
  least_in [] h = tt
  least_in (v ∷ vs) h = rest_in lesser (λ v w a b. cond_in (is_gt (val_cmp v w)) w v b a) v (least vs) h.0 (least_in vs h.1)

  pub greatest_in : (vs : List Val) → Each In vs → IfThere In (greatest vs)
  greatest_in [] h = tt
  greatest_in (v ∷ vs) h = rest_in greater (λ v w a b. cond_in (is_lt (val_cmp v w)) w v b a) v (greatest vs) h.0 (greatest_in vs h.1)

  pub each_if : (b : Bool) (xs ys : List Val) → Each In xs → Each In ys → Each In (cond b xs ys)
  each_if true xs ys h r = h
  each_if false xs ys h r = r

  pub filter_in : (f : Val → Bool) (vs : List Val) → Each In vs → Each In (filter f vs)
  filter_in f [] h = tt
  filter_in f (v ∷ vs) h = each_if (f v) (v ∷ filter f vs) (filter f vs) (h.0, filter_in f vs h.1) (filter_in f vs h.1)

  pub distinct_in : (vs : List Val) → Each In vs → Each In (distinct same vs)
  distinct_in [] h = tt
  distinct_in (v ∷ vs) h = (h.0, filter_in (λ y. not (same v y)) (distinct same vs) (distinct_in vs h.1))

  pub asserted_in : (o : Option Fault) (vs : List Val) → Each In vs → EachValue (λ v. IsTrue (p v)) (asserted o vs)
  asserted_in None vs h = each_all_of (λ v. IsTrue (p v)) vs h
  asserted_in (Some e) vs h = tt

module _ (p : Val → Bool) (c : IsClosed p) where
  abbrev Gives : Item Val → Type 0
  Gives x = EachValue (λ v. IsTrue (p v)) (x ∷ [])

  int_in : (z : ℤ) → Gives (int_item z)
  int_in z = by_size (is_int64 z)
    where
      by_size : (b : Bool) → Gives (cond b (item.Value (val.Int z)) (item.Fault fault.IntOverflow))
      by_size true = (c.ints z, tt)
      by_size false = tt

  fit_in : {A : Type 0} (o : Option A) (f : A → Item Val) → ((a : A) → Gives (f a)) → Gives (fitting o f)
  fit_in None f h = tt
  fit_in (Some a) f h = h a

  divided_in : (d : ℤ) (x : Item Val) → Gives x → Gives (divided d x)
  divided_in d x h = by_zero (int_eq d (pos 0))
    where
      by_zero : (b : Bool) → Gives (cond b (item.Fault fault.DivisionByZero) x)
      by_zero true = tt
      by_zero false = h

  op_in : (o : Op) (vs : List Val) → Gives (item_of_op o vs)
  op_in op.Add vs = fit_in (numbers_in vs) (λ (a, b). int_item (a +ℤ b)) (λ x. int_in (x.0 +ℤ x.1))
  op_in op.Sub vs = fit_in (numbers_in vs) (λ (a, b). int_item (a -ℤ b)) (λ x. int_in (x.0 -ℤ x.1))
  op_in op.Mul vs = fit_in (numbers_in vs) (λ (a, b). int_item (a *ℤ b)) (λ x. int_in (x.0 *ℤ x.1))
  op_in op.FloorDiv vs = fit_in (numbers_in vs) (λ (a, b). divided b (int_item (floor_quotient a b))) (λ x. divided_in x.1 (int_item (floor_quotient x.0 x.1)) (int_in (floor_quotient x.0 x.1)))
  op_in op.Mod vs = fit_in (numbers_in vs) (λ (a, b). divided b (item.Value (val.Int (floor_rest a b)))) (λ x. divided_in x.1 (item.Value (val.Int (floor_rest x.0 x.1))) (c.ints (floor_rest x.0 x.1), tt))
  op_in op.Neg vs = fit_in (number_in vs) (λ a. int_item (neg_ℤ a)) (λ a. int_in (neg_ℤ a))
  op_in op.Concat vs = fit_in (texts_in vs) (λ (s, t). item.Value (val.Str (s ++ t))) (λ x. (c.texts (x.0 ++ x.1), tt))
  op_in op.Len vs = fit_in (text_in vs) (λ s. int_item (pos (length (chars s)))) (λ s. int_in (pos (length (chars s))))
  op_in op.Eq vs = fit_in (order_in vs) (λ o. bool_item (is_eq o)) (λ o. (c.truths (is_eq o), tt))
  op_in op.Ne vs = fit_in (order_in vs) (λ o. bool_item (is_ne o)) (λ o. (c.truths (is_ne o), tt))
  op_in op.Lt vs = fit_in (order_in vs) (λ o. bool_item (is_lt o)) (λ o. (c.truths (is_lt o), tt))
  op_in op.Le vs = fit_in (order_in vs) (λ o. bool_item (is_le o)) (λ o. (c.truths (is_le o), tt))
  op_in op.Gt vs = fit_in (order_in vs) (λ o. bool_item (is_gt o)) (λ o. (c.truths (is_gt o), tt))
  op_in op.Ge vs = fit_in (order_in vs) (λ o. bool_item (is_ge o)) (λ o. (c.truths (is_ge o), tt))
  op_in op.And vs = fit_in (truths_in vs) (λ (a, b). bool_item (a && b)) (λ x. (c.truths (x.0 && x.1), tt))
  op_in op.Or vs = fit_in (truths_in vs) (λ (a, b). bool_item (a || b)) (λ x. (c.truths (x.0 || x.1), tt))
  op_in op.Not vs = fit_in (truth_of vs) (λ a. bool_item (not a)) (λ a. (c.truths (not a), tt))

  -- ---- casts

  read_in : (o : Option Val) → IfThere (In p) o → Gives (read_item o)
  read_in None h = tt
  read_in (Some v) h = (h, tt)

  and_then_in : (o : Option ℤ) → IfThere (In p) (option_and_then int64_in o)
  and_then_in None = tt
  and_then_in (Some z) = by_size (is_int64 z)
    where
      by_size : (b : Bool) → IfThere (In p) (cond b (Some (val.Int z)) None)
      by_size true = c.ints z
      by_size false = tt

  truth_in : (s : List ℕ) → IfThere (In p) (truth_written s)
  truth_in s = by_text (bytes_eq s (codes "true")) (bytes_eq s (codes "false"))
    where
      by_text : (a b : Bool) → IfThere (In p) (cond a (Some (val.Bool true)) (cond b (Some (val.Bool false)) None))
      by_text true b = c.truths true
      by_text false true = c.truths false
      by_text false false = tt

  id_in : (o : Option (List ℕ)) → IfThere (In p) (option_map (λ bytes. val.Id (from_be_bytes w128 bytes)) o)
  id_in None = tt
  id_in (Some bytes) = c.ids (from_be_bytes w128 bytes)

  cast_in : (t : ScalarTy) (v : Val) → Gives (item_of_cast t v)
  cast_in ty.Int64 (val.Int z) = (c.ints z, tt)
  cast_in ty.Int64 (val.Str s) = read_in (option_and_then int64_in (number_written s)) (and_then_in (number_written s))
  cast_in ty.Int64 (val.Bool b) = tt
  cast_in ty.Int64 (val.Id n) = tt
  cast_in ty.Int64 (val.Obj n) = tt
  cast_in ty.Int64 (val.Tuple' _ vs) = tt
  cast_in ty.Int64 (val.Array' _ vs) = tt
  cast_in ty.Str (val.Int z) = (c.texts (signed_decimal z), tt)
  cast_in ty.Str (val.Str s) = (c.texts s, tt)
  cast_in ty.Str (val.Bool b) = (c.texts (cond b (codes "true") (codes "false")), tt)
  cast_in ty.Str (val.Id n) = (c.texts (id_text n), tt)
  cast_in ty.Str (val.Obj n) = tt
  cast_in ty.Str (val.Tuple' _ vs) = tt
  cast_in ty.Str (val.Array' _ vs) = tt
  cast_in ty.Bool (val.Int z) = tt
  cast_in ty.Bool (val.Str s) = read_in (truth_written s) (truth_in s)
  cast_in ty.Bool (val.Bool b) = (c.truths b, tt)
  cast_in ty.Bool (val.Id n) = tt
  cast_in ty.Bool (val.Obj n) = tt
  cast_in ty.Bool (val.Tuple' _ vs) = tt
  cast_in ty.Bool (val.Array' _ vs) = tt
  cast_in ty.Uuid (val.Int z) = tt
  cast_in ty.Uuid (val.Str s) = read_in (id_written s) (id_in (parsed s))
  cast_in ty.Uuid (val.Bool b) = tt
  cast_in ty.Uuid (val.Id n) = (c.ids n, tt)
  cast_in ty.Uuid (val.Obj n) = tt
  cast_in ty.Uuid (val.Tuple' _ vs) = tt
  cast_in ty.Uuid (val.Array' _ vs) = tt

  -- ---- functions of sets

  array_is : (vs : List Val) → IsArray (made.Array vs)
  unfolding carrier.hidden vals.hidden-the_row-Val-0
  array_is vs = tt

  array_in : (vs : List Val) → Each (λ v. IsTrue (p v)) vs → IsTrue (p (made.Array vs))
  array_in vs h = c.arrays (made.Array vs) (array_is vs) (subst (Each (λ v. IsTrue (p v))) (sym (elements_of_array vs)) h)

  function_in : (f : SetFunction) (vs : List Val) → Each (In p) vs → EachValue (λ v. IsTrue (p v)) (of_values f vs)
  function_in function.Count vs h = int_in (pos (length vs))
  function_in function.Sum vs h = int_in (total vs)
  function_in function.Min vs h = optional_in p (least vs) (least_in p vs h)
  function_in function.Max vs h = optional_in p (greatest vs) (greatest_in p vs h)
  function_in function.Any vs h = (c.truths (list_any is_true vs), tt)
  function_in function.All vs h = (c.truths (list_all is_true vs), tt)
  function_in function.Exists vs h = (c.truths (not (is_empty vs)), tt)
  function_in function.Distinct vs h = each_all_of (λ v. IsTrue (p v)) (distinct same vs) (distinct_in p vs h)
  function_in function.AssertSingle vs h = asserted_in p (single_fault vs) vs h
  function_in function.AssertExists vs h = asserted_in p (exists_fault vs) vs h
  function_in function.AssertDistinct vs h = asserted_in p (distinct_fault same vs) vs h
  function_in function.ArrayAgg vs h = (array_in vs h, tt)

  all_along : (asked : Asked) (us : List (Unit {0})) (vs : List Val) → Along (Of (uniform p asked)) us vs → Each (λ v. IsTrue (p v)) vs
  all_along asked [] [] h = tt
  all_along asked (u ∷ us) (v ∷ vs) h = (h.0, all_along asked us vs h.1)
  all_along asked [] (v ∷ vs) h = absurd h
  all_along asked (u ∷ us) [] h = absurd h

  all_parts : (asked : Asked) (i : ℕ) (vs : List Val) → Each (λ v. IsTrue (p v)) vs → AreParts (uniform p asked) tt i vs
  all_parts asked i [] h = tt
  all_parts asked i (v ∷ vs) h = (h.0, all_parts asked (suc i) vs h.1)

  pub closed_is_sound : (asked : Asked) → AreSound (uniform p asked)
  closed_is_sound asked = record {
    widening = λ u t v r h. h;
    literals = λ v t h. h;
    operations = λ o us t vs r h. op_in o vs;
    casts = λ y u t v r h. cast_in y v;
    functions = λ f u t vs r h. function_in f vs h;
    truths = λ t b r. c.truths b;
    tuples = λ us t vs r h. c.tuples vs (all_along asked us vs h);
    components = λ t v h. all_parts asked 0 (components_of v) (c.components v h);
    arrays = λ us t vs r h. array_in vs (all_along asked us vs h);
    elements = λ u t v r h. c.elements v h;
  }
