-- The rules of types are sound.
use Rattle.std.proofs.Common.{◌≡◌, IsTrue, ℕ, ℤ, pos, neg_ℤ, ◌+ℤ◌, ◌-ℤ◌, ◌*ℤ◌, ◌&&◌, ◌||◌, not, Bool, true, false, cond, Option, Some, None, List, [], ◌∷◌, ◌++◌, length, option_map, option_and_then, refl, sym, ap, ◌∙◌, subst, suc, ◌+◌, arith}
use Rattle.std.specs.List.{list_any, list_all}
use Rattle.std.specs.Ordering.{int_eq, is_eq, is_ne, is_lt, is_le, is_gt, is_ge}
use Rattle.std.specs.Str.{chars, bytes_eq}
use Rattle.std.specs.Prelude.{codes}
use Rattle.std.specs.Int.{w128, from_be_bytes}
use Rattle.uuid.specs.Text.{parsed}
use Rattle.ev_value.specs.Casts.{int64_in, number_written, truth_written, id_written, read_item, item_of_cast}
use Rattle.ev_value.specs.Division.{floor_quotient, floor_rest}
use Rattle.ev_value.specs.Item.{EachValue}
use Rattle.ev_value.specs.Operator.{is_int64, int_item, bool_item, fitting, numbers_in, number_in, texts_in, text_in, truths_in, truth_in, order_in, divided, item_of_op}
use Rattle.ev_value.specs.declared.args.Args.{Args}
use Rattle.ev_value.specs.declared.item.Fault.TheVariants as fault
use Rattle.ev_value.specs.declared.item.Item.{Item}
use Rattle.ev_value.specs.declared.item.Item.TheVariants as item
use Rattle.ev_value.specs.declared.operator.Op.{Op}
use Rattle.ev_value.specs.declared.operator.Op.TheVariants as op
use Rattle.ev_value.specs.declared.value.ScalarTy.{ScalarTy}
use Rattle.ev_value.specs.declared.value.ScalarTy.TheVariants as scalar
use Rattle.ev_value.specs.declared.value.Val.{Val, Row_of-Val, end_of-Val, more_of-Val}
use Rattle.ev_value.specs.declared.value.Val as val
use Rattle.ev_value.specs.declared.value.Val.TheVariants as made
use Rattle.ev_value.specs.declared.value.Val.TheBlock as vals
use denote.Hole.Carrier as carrier
use Rattle.ev_list.specs.Aggregate.{total, least, greatest, is_true}
use Rattle.ev_list.specs.Occurrence.{distinct}
use Rattle.ev_list.specs.Single.{single_fault, exists_fault, distinct_fault}
use Rattle.core_ir.specs.declared.path.TypeId.{TypeId}
use Rattle.core_ir.specs.declared.tree.SetFunction.{SetFunction}
use Rattle.core_ir.specs.declared.tree.SetFunction.TheVariants as function
use Rattle.core_ir.specs.declared.ty.Ty.{Ty, Row_of-Ty, end_of-Ty, more_of-Ty}
use Rattle.core_ir.specs.declared.ty.Ty as ty
use Rattle.ev_schema.specs.declared.schema.Schema.{Schema}
use Rattle.ev_schema.specs.Types.{is_subtype}
use Rattle.db_store.specs.declared.object.Object.{Object}
use Rattle.db_store.specs.Limits.{has_type, have_type, is_array_of}
use Rattle.db_store.specs.Objects.{object_of}
use Rattle.eql_sem.specs.Operations.{same, is_empty, of_values, values_in_row, elements_of}
use Rattle.eql_steps.specs.Steps.{is_of}
use Rattle.eql_agree.specs.Kinds.{Each, Along, components_of, Of, AreParts, AreSound}
use Rattle.eql_agree.specs.Agreeing.{IfThere}
use Rattle.eql_agree.proofs.Lists.{each_all_of, each_weaker}
use Rattle.eql_agree.proofs.Closed.{optional_in, least_in, greatest_in, distinct_in, asserted_in}
use Rattle.store_agree.proofs.Truths.{first_true, second_true, two_true}
use Rattle.store_agree.specs.Typed.{plain_type, same_scalar, is_scalar, is_array, are_scalar, part_at, part_of, makes_array, gives_element, result_of, is_of_ty, are_of_ty, widens, all_widen, parts_widen, makes_tuple, function_gives, types, ExtendsOn}

-- ---- what operators and casts give

abbrev Typed : ScalarTy → Item Val → Type 0
Typed t x = EachValue (λ v. IsTrue (has_type t v)) (x ∷ [])

int_typed : (z : ℤ) → Typed scalar.Int64 (int_item z)
int_typed z = by_size (is_int64 z)
  where
    by_size : (b : Bool) → Typed scalar.Int64 (cond b (item.Value (val.Int z)) (item.Fault fault.IntOverflow))
    by_size true = (refl, tt)
    by_size false = tt

fit_typed : {A : Type 0} (t : ScalarTy) (o : Option A) (f : A → Item Val) → ((a : A) → Typed t (f a)) → Typed t (fitting o f)
fit_typed t None f h = tt
fit_typed t (Some a) f h = h a

divided_typed : (t : ScalarTy) (d : ℤ) (x : Item Val) → Typed t x → Typed t (divided d x)
divided_typed t d x h = by_zero (int_eq d (pos 0))
  where
    by_zero : (b : Bool) → Typed t (cond b (item.Fault fault.DivisionByZero) x)
    by_zero true = tt
    by_zero false = h

op_typed : (o : Op) (vs : List Val) → Typed (result_of o) (item_of_op o vs)
op_typed op.Add vs = fit_typed scalar.Int64 (numbers_in vs) (λ (a, b). int_item (a +ℤ b)) (λ x. int_typed (x.0 +ℤ x.1))
op_typed op.Sub vs = fit_typed scalar.Int64 (numbers_in vs) (λ (a, b). int_item (a -ℤ b)) (λ x. int_typed (x.0 -ℤ x.1))
op_typed op.Mul vs = fit_typed scalar.Int64 (numbers_in vs) (λ (a, b). int_item (a *ℤ b)) (λ x. int_typed (x.0 *ℤ x.1))
op_typed op.FloorDiv vs = fit_typed scalar.Int64 (numbers_in vs) (λ (a, b). divided b (int_item (floor_quotient a b))) (λ x. divided_typed scalar.Int64 x.1 (int_item (floor_quotient x.0 x.1)) (int_typed (floor_quotient x.0 x.1)))
op_typed op.Mod vs = fit_typed scalar.Int64 (numbers_in vs) (λ (a, b). divided b (item.Value (val.Int (floor_rest a b)))) (λ x. divided_typed scalar.Int64 x.1 (item.Value (val.Int (floor_rest x.0 x.1))) (refl, tt))
op_typed op.Neg vs = fit_typed scalar.Int64 (number_in vs) (λ a. int_item (neg_ℤ a)) (λ a. int_typed (neg_ℤ a))
op_typed op.Concat vs = fit_typed scalar.Str (texts_in vs) (λ (s, t). item.Value (val.Str (s ++ t))) (λ x. (refl, tt))
op_typed op.Len vs = fit_typed scalar.Int64 (text_in vs) (λ s. int_item (pos (length (chars s)))) (λ s. int_typed (pos (length (chars s))))
op_typed op.Eq vs = fit_typed scalar.Bool (order_in vs) (λ o. bool_item (is_eq o)) (λ o. (refl, tt))
op_typed op.Ne vs = fit_typed scalar.Bool (order_in vs) (λ o. bool_item (is_ne o)) (λ o. (refl, tt))
op_typed op.Lt vs = fit_typed scalar.Bool (order_in vs) (λ o. bool_item (is_lt o)) (λ o. (refl, tt))
op_typed op.Le vs = fit_typed scalar.Bool (order_in vs) (λ o. bool_item (is_le o)) (λ o. (refl, tt))
op_typed op.Gt vs = fit_typed scalar.Bool (order_in vs) (λ o. bool_item (is_gt o)) (λ o. (refl, tt))
op_typed op.Ge vs = fit_typed scalar.Bool (order_in vs) (λ o. bool_item (is_ge o)) (λ o. (refl, tt))
op_typed op.And vs = fit_typed scalar.Bool (truths_in vs) (λ (a, b). bool_item (a && b)) (λ x. (refl, tt))
op_typed op.Or vs = fit_typed scalar.Bool (truths_in vs) (λ (a, b). bool_item (a || b)) (λ x. (refl, tt))
op_typed op.Not vs = fit_typed scalar.Bool (truth_in vs) (λ a. bool_item (not a)) (λ a. (refl, tt))

read_typed : (t : ScalarTy) (o : Option Val) → IfThere (λ v. IsTrue (has_type t v)) o → Typed t (read_item o)
read_typed t None h = tt
read_typed t (Some v) h = (h, tt)

number_typed : (o : Option ℤ) → IfThere (λ v. IsTrue (has_type scalar.Int64 v)) (option_and_then int64_in o)
number_typed None = tt
number_typed (Some z) = by_size (is_int64 z)
  where
    by_size : (b : Bool) → IfThere (λ v. IsTrue (has_type scalar.Int64 v)) (cond b (Some (val.Int z)) None)
    by_size true = refl
    by_size false = tt

truth_typed : (s : List ℕ) → IfThere (λ v. IsTrue (has_type scalar.Bool v)) (truth_written s)
truth_typed s = by_text (bytes_eq s (codes "true")) (bytes_eq s (codes "false"))
  where
    by_text : (a b : Bool) → IfThere (λ v. IsTrue (has_type scalar.Bool v)) (cond a (Some (val.Bool true)) (cond b (Some (val.Bool false)) None))
    by_text true b = refl
    by_text false true = refl
    by_text false false = tt

id_typed : (o : Option (List ℕ)) → IfThere (λ v. IsTrue (has_type scalar.Uuid v)) (option_map (λ bytes. val.Id (from_be_bytes w128 bytes)) o)
id_typed None = tt
id_typed (Some bytes) = refl

cast_typed : (t : ScalarTy) (v : Val) → Typed t (item_of_cast t v)
cast_typed scalar.Int64 (val.Int z) = (refl, tt)
cast_typed scalar.Int64 (val.Str s) = read_typed scalar.Int64 (option_and_then int64_in (number_written s)) (number_typed (number_written s))
cast_typed scalar.Int64 (val.Bool b) = tt
cast_typed scalar.Int64 (val.Id n) = tt
cast_typed scalar.Int64 (val.Obj n) = tt
cast_typed scalar.Int64 (val.Tuple' _ vs) = tt
cast_typed scalar.Int64 (val.Array' _ vs) = tt
cast_typed scalar.Str (val.Int z) = (refl, tt)
cast_typed scalar.Str (val.Str s) = (refl, tt)
cast_typed scalar.Str (val.Bool b) = (refl, tt)
cast_typed scalar.Str (val.Id n) = (refl, tt)
cast_typed scalar.Str (val.Obj n) = tt
cast_typed scalar.Str (val.Tuple' _ vs) = tt
cast_typed scalar.Str (val.Array' _ vs) = tt
cast_typed scalar.Bool (val.Int z) = tt
cast_typed scalar.Bool (val.Str s) = read_typed scalar.Bool (truth_written s) (truth_typed s)
cast_typed scalar.Bool (val.Bool b) = (refl, tt)
cast_typed scalar.Bool (val.Id n) = tt
cast_typed scalar.Bool (val.Obj n) = tt
cast_typed scalar.Bool (val.Tuple' _ vs) = tt
cast_typed scalar.Bool (val.Array' _ vs) = tt
cast_typed scalar.Uuid (val.Int z) = tt
cast_typed scalar.Uuid (val.Str s) = read_typed scalar.Uuid (id_written s) (id_typed (parsed s))
cast_typed scalar.Uuid (val.Bool b) = tt
cast_typed scalar.Uuid (val.Id n) = (refl, tt)
cast_typed scalar.Uuid (val.Obj n) = tt
cast_typed scalar.Uuid (val.Tuple' _ vs) = tt
cast_typed scalar.Uuid (val.Array' _ vs) = tt

-- scalar types that are one
one_scalar : (a b : ScalarTy) → IsTrue (same_scalar a b) → a ≡ b
one_scalar scalar.Int64 scalar.Int64 h = refl
one_scalar scalar.Int64 scalar.Str h = let clash : false ≡ true = h in absurd cc
one_scalar scalar.Int64 scalar.Bool h = let clash : false ≡ true = h in absurd cc
one_scalar scalar.Int64 scalar.Uuid h = let clash : false ≡ true = h in absurd cc
one_scalar scalar.Str scalar.Int64 h = let clash : false ≡ true = h in absurd cc
one_scalar scalar.Str scalar.Str h = refl
one_scalar scalar.Str scalar.Bool h = let clash : false ≡ true = h in absurd cc
one_scalar scalar.Str scalar.Uuid h = let clash : false ≡ true = h in absurd cc
one_scalar scalar.Bool scalar.Int64 h = let clash : false ≡ true = h in absurd cc
one_scalar scalar.Bool scalar.Str h = let clash : false ≡ true = h in absurd cc
one_scalar scalar.Bool scalar.Bool h = refl
one_scalar scalar.Bool scalar.Uuid h = let clash : false ≡ true = h in absurd cc
one_scalar scalar.Uuid scalar.Int64 h = let clash : false ≡ true = h in absurd cc
one_scalar scalar.Uuid scalar.Str h = let clash : false ≡ true = h in absurd cc
one_scalar scalar.Uuid scalar.Bool h = let clash : false ≡ true = h in absurd cc
one_scalar scalar.Uuid scalar.Uuid h = refl

module _ (s : Schema) (os : List Object) (args : Args) (extends : ExtendsOn s) where
  pub scalar_in : (a : ScalarTy) (t : Ty) (v : Val) → IsTrue (is_scalar a t) → IsTrue (has_type a v) → IsTrue (is_of_ty s os t v)
  unfolding is_of_ty
  scalar_in a (ty.Scalar b) v h r = subst (λ (c : ScalarTy). IsTrue (has_type c v)) (one_scalar a b h) r
  scalar_in a (ty.Object b) v h r = let clash : false ≡ true = h in absurd cc
  scalar_in a (ty.Tuple' _ ts) v h r = let clash : false ≡ true = h in absurd cc
  scalar_in a (ty.Array b) v h r = let clash : false ≡ true = h in absurd cc

  scalar_out : (a : ScalarTy) (t : Ty) (v : Val) → IsTrue (is_scalar a t) → IsTrue (is_of_ty s os t v) → IsTrue (has_type a v)
  unfolding is_of_ty
  scalar_out a (ty.Scalar b) v h r = subst (λ (c : ScalarTy). IsTrue (has_type c v)) (sym (one_scalar a b h)) r
  scalar_out a (ty.Object b) v h r = let clash : false ≡ true = h in absurd cc
  scalar_out a (ty.Tuple' _ ts) v h r = let clash : false ≡ true = h in absurd cc
  scalar_out a (ty.Array b) v h r = let clash : false ≡ true = h in absurd cc

  pub array_in : (a : ScalarTy) (t : Ty) (v : Val) → IsTrue (is_array a t) → IsTrue (is_array_of a v) → IsTrue (is_of_ty s os t v)
  unfolding is_of_ty
  array_in a (ty.Array b) v h r = subst (λ (c : ScalarTy). IsTrue (is_array_of c v)) (one_scalar a b h) r
  array_in a (ty.Scalar b) v h r = let clash : false ≡ true = h in absurd cc
  array_in a (ty.Object b) v h r = let clash : false ≡ true = h in absurd cc
  array_in a (ty.Tuple' _ ts) v h r = let clash : false ≡ true = h in absurd cc

  typed_in : (a : ScalarTy) (t : Ty) (x : Item Val) → IsTrue (is_scalar a t) → Typed a x → EachValue (λ v. IsTrue (is_of_ty s os t v)) (x ∷ [])
  typed_in a t x h r = each_weaker (λ v. IsTrue (has_type a v)) (λ v. IsTrue (is_of_ty s os t v)) (x ∷ []) (λ v q. scalar_in a t v h q) r

  object_in : (a b : TypeId) (o : Option Object) → IsTrue (is_subtype s.types a b) → IsTrue (is_of s os a o) → IsTrue (is_of s os b o)
  object_in a b None h r = r
  object_in a b (Some o) h r = extends o.ty a b r h

  mutual
    unfolding is_of_ty widens

    pub widen_in : (u t : Ty) (v : Val) → IsTrue (widens s u t) → IsTrue (is_of_ty s os u v) → IsTrue (is_of_ty s os t v)
    widen_in (ty.Scalar a) t v h r = scalar_in a t v h r
    widen_in (ty.Object a) (ty.Object b) v h r = object_in a b (object_of os v) h r
    widen_in (ty.Object a) (ty.Scalar b) v h r = let clash : false ≡ true = h in absurd cc
    widen_in (ty.Object a) (ty.Tuple' _ ts) v h r = let clash : false ≡ true = h in absurd cc
    widen_in (ty.Object a) (ty.Array b) v h r = let clash : false ≡ true = h in absurd cc
    widen_in (ty.Array a) t v h r = array_in a t v h r
    widen_in (ty.Tuple' _ us) (ty.Scalar b) v h r = let clash : false ≡ true = h in absurd cc
    widen_in (ty.Tuple' _ us) (ty.Object b) v h r = let clash : false ≡ true = h in absurd cc
    widen_in (ty.Tuple' _ us) (ty.Array b) v h r = let clash : false ≡ true = h in absurd cc
    widen_in (ty.Tuple' _ us) (ty.Tuple' _ ts) (val.Tuple' _ vs) h r = all_in us ts vs h r
    widen_in (ty.Tuple' _ us) (ty.Tuple' _ ts) (val.Int z) h r = r
    widen_in (ty.Tuple' _ us) (ty.Tuple' _ ts) (val.Str z) h r = r
    widen_in (ty.Tuple' _ us) (ty.Tuple' _ ts) (val.Bool z) h r = r
    widen_in (ty.Tuple' _ us) (ty.Tuple' _ ts) (val.Id z) h r = r
    widen_in (ty.Tuple' _ us) (ty.Tuple' _ ts) (val.Obj z) h r = r
    widen_in (ty.Tuple' _ us) (ty.Tuple' _ ts) (val.Array' _ vs) h r = r

    all_in : {m n l : _} (us : Row_of-Ty m) (ts : Row_of-Ty n) (vs : Row_of-Val l) → IsTrue (all_widen s us ts) → IsTrue (are_of_ty s os us vs) → IsTrue (are_of_ty s os ts vs)
    all_in end_of-Ty end_of-Ty vs h r = r
    all_in end_of-Ty (more_of-Ty t ts) vs h r = let clash : false ≡ true = h in absurd cc
    all_in (more_of-Ty u us) end_of-Ty vs h r = let clash : false ≡ true = h in absurd cc
    all_in (more_of-Ty u us) (more_of-Ty t ts) end_of-Val h r = r
    all_in (more_of-Ty u us) (more_of-Ty t ts) (more_of-Val v vs) h r =
        two_true (is_of_ty s os t v) (are_of_ty s os ts vs)
        (widen_in u t v (first_true (widens s u t) (all_widen s us ts) h) (first_true (is_of_ty s os u v) (are_of_ty s os us vs) r))
        (all_in us ts vs (second_true (widens s u t) (all_widen s us ts) h) (second_true (is_of_ty s os u v) (are_of_ty s os us vs) r))

  -- ---- tuples

  parts_in : {m : _} (us : List Ty) (ts : Row_of-Ty m) (vs : List Val) → IsTrue (parts_widen s us ts) → Along (Of (types s os args)) us vs → IsTrue (are_of_ty s os ts (vals.hidden-the_row-Val-0 vs))
  unfolding is_of_ty carrier.hidden vals.hidden-the_row-Val-0
  parts_in [] end_of-Ty [] h a = refl
  parts_in (u ∷ us) (more_of-Ty t ts) (v ∷ vs) h a =
      two_true (is_of_ty s os t v) (are_of_ty s os ts (vals.hidden-the_row-Val-0 vs)) (widen_in u t v (first_true (widens s u t) (parts_widen s us ts) h) a.0) (parts_in us ts vs (second_true (widens s u t) (parts_widen s us ts) h) a.1)
  parts_in [] (more_of-Ty t ts) vs h a = let clash : false ≡ true = h in absurd cc
  parts_in (u ∷ us) end_of-Ty vs h a = let clash : false ≡ true = h in absurd cc
  parts_in [] end_of-Ty (v ∷ vs) h a = absurd a
  parts_in (u ∷ us) (more_of-Ty t ts) [] h a = absurd a

  tuple_in : (us : List Ty) (t : Ty) (vs : List Val) → IsTrue (makes_tuple s us t) → Along (Of (types s os args)) us vs → IsTrue (is_of_ty s os t (made.Tuple vs))
  unfolding is_of_ty
  tuple_in us (ty.Tuple' _ ts) vs h a = parts_in us ts vs h a
  tuple_in us (ty.Scalar b) vs h a = let clash : false ≡ true = h in absurd cc
  tuple_in us (ty.Object b) vs h a = let clash : false ≡ true = h in absurd cc
  tuple_in us (ty.Array b) vs h a = let clash : false ≡ true = h in absurd cc

  -- the components of a tuple behind the first ones
  components_are : {m n : _} (ts : Row_of-Ty m) (vs : Row_of-Val n) (t : Ty) (i : ℕ) → ((j : ℕ) → part_of t (j + i) ≡ part_at ts j) → IsTrue (are_of_ty s os ts vs) → AreParts (types s os args) t i (values_in_row vs)
  unfolding is_of_ty
  components_are end_of-Ty end_of-Val t i e h = tt
  components_are (more_of-Ty u ts) (more_of-Val v vs) t i e h = (
    subst (λ (u : Ty). IsTrue (is_of_ty s os u v)) (sym (e 0) ∙ ap (part_of t) (none_before i)) (first_true (is_of_ty s os u v) (are_of_ty s os ts vs) h),
    components_are ts vs t (suc i) (λ j. ap (part_of t) (behind j i) ∙ e (suc j)) (second_true (is_of_ty s os u v) (are_of_ty s os ts vs) h),
  )
    where
      none_before : (i : ℕ) → 0 + i ≡ i
      none_before i = omega arith

      behind : (j i : ℕ) → j + suc i ≡ suc j + i
      behind j i = omega arith
  components_are end_of-Ty (more_of-Val v vs) t i e h = let clash : false ≡ true = h in absurd cc
  components_are (more_of-Ty u ts) end_of-Val t i e h = let clash : false ≡ true = h in absurd cc

  components_in : (t : Ty) (v : Val) → IsTrue (is_of_ty s os t v) → AreParts (types s os args) t 0 (components_of v)
  unfolding is_of_ty components_of
  components_in (ty.Tuple' m ts) (val.Tuple' _ vs) h = components_are ts vs (ty.Tuple' m ts) 0 (λ j. ap (part_at ts) (plain j)) h
    where
      plain : (j : ℕ) → j + 0 ≡ j
      plain j = omega arith
  components_in (ty.Scalar scalar.Int64) (val.Tuple' _ vs) h = let clash : false ≡ true = h in absurd cc
  components_in (ty.Scalar scalar.Str) (val.Tuple' _ vs) h = let clash : false ≡ true = h in absurd cc
  components_in (ty.Scalar scalar.Bool) (val.Tuple' _ vs) h = let clash : false ≡ true = h in absurd cc
  components_in (ty.Scalar scalar.Uuid) (val.Tuple' _ vs) h = let clash : false ≡ true = h in absurd cc
  components_in (ty.Object a) (val.Tuple' _ vs) h = let clash : false ≡ true = h in absurd cc
  components_in (ty.Array a) (val.Tuple' _ vs) h = let clash : false ≡ true = h in absurd cc
  components_in t (val.Int z) h = tt
  components_in t (val.Str z) h = tt
  components_in t (val.Bool b) h = tt
  components_in t (val.Id n) h = tt
  components_in t (val.Obj n) h = tt
  components_in t (val.Array' _ vs) h = tt

  -- ---- arrays

  each_scalar : (a : ScalarTy) (us : List Ty) (vs : List Val) → IsTrue (are_scalar a us) → Along (Of (types s os args)) us vs → Each (λ v. IsTrue (has_type a v)) vs
  each_scalar a [] [] h r = tt
  each_scalar a (u ∷ us) (v ∷ vs) h r = (scalar_out a u v (first_true (is_scalar a u) (are_scalar a us) h) r.0, each_scalar a us vs (second_true (is_scalar a u) (are_scalar a us) h) r.1)
  each_scalar a [] (v ∷ vs) h r = absurd r
  each_scalar a (u ∷ us) [] h r = absurd r

  all_scalar : (a : ScalarTy) (u : Ty) (vs : List Val) → IsTrue (is_scalar a u) → Each (Of (types s os args) u) vs → Each (λ v. IsTrue (has_type a v)) vs
  all_scalar a u [] h r = tt
  all_scalar a u (v ∷ vs) h r = (scalar_out a u v h r.0, all_scalar a u vs h r.1)

  row_typed : (a : ScalarTy) (vs : List Val) → Each (λ v. IsTrue (has_type a v)) vs → IsTrue (have_type a (vals.hidden-the_row-Val-0 vs))
  unfolding carrier.hidden vals.hidden-the_row-Val-0
  row_typed a [] h = refl
  row_typed a (v ∷ vs) h = two_true (has_type a v) (have_type a (vals.hidden-the_row-Val-0 vs)) h.0 (row_typed a vs h.1)

  made_array : (a : ScalarTy) (vs : List Val) → Each (λ v. IsTrue (has_type a v)) vs → IsTrue (is_of_ty s os (ty.Array a) (made.Array vs))
  unfolding is_of_ty
  made_array a vs h = row_typed a vs h

  array_of : (us : List Ty) (t : Ty) (vs : List Val) → IsTrue (makes_array us t) → Along (Of (types s os args)) us vs → IsTrue (is_of_ty s os t (made.Array vs))
  array_of us (ty.Array a) vs h r = made_array a vs (each_scalar a us vs h r)
  array_of us (ty.Scalar a) vs h r = let clash : false ≡ true = h in absurd cc
  array_of us (ty.Object a) vs h r = let clash : false ≡ true = h in absurd cc
  array_of us (ty.Tuple' _ ts) vs h r = let clash : false ≡ true = h in absurd cc

  aggregated : (u t : Ty) (vs : List Val) → IsTrue (gives_element t u) → Each (Of (types s os args) u) vs → IsTrue (is_of_ty s os t (made.Array vs))
  aggregated u (ty.Array a) vs h r = made_array a vs (all_scalar a u vs h r)
  aggregated u (ty.Scalar a) vs h r = let clash : false ≡ true = h in absurd cc
  aggregated u (ty.Object a) vs h r = let clash : false ≡ true = h in absurd cc
  aggregated u (ty.Tuple' _ ts) vs h r = let clash : false ≡ true = h in absurd cc

  row_elements : {n : _} (a : ScalarTy) (t : Ty) (vs : Row_of-Val n) → IsTrue (is_scalar a t) → IsTrue (have_type a vs) → Each (λ v. IsTrue (is_of_ty s os t v)) (values_in_row vs)
  row_elements a t end_of-Val h r = tt
  row_elements a t (more_of-Val v vs) h r = (scalar_in a t v h (first_true (has_type a v) (have_type a vs) r), row_elements a t vs h (second_true (has_type a v) (have_type a vs) r))

  array_elements : (a : ScalarTy) (t : Ty) (v : Val) → IsTrue (is_scalar a t) → IsTrue (is_array_of a v) → Each (λ v. IsTrue (is_of_ty s os t v)) (elements_of v)
  unfolding elements_of
  array_elements a t (val.Array' _ vs) h r = row_elements a t vs h r
  array_elements a t (val.Int z) h r = tt
  array_elements a t (val.Str z) h r = tt
  array_elements a t (val.Bool b) h r = tt
  array_elements a t (val.Id n) h r = tt
  array_elements a t (val.Obj n) h r = tt
  array_elements a t (val.Tuple' _ vs) h r = tt

  elements_are : (u t : Ty) (v : Val) → IsTrue (gives_element u t) → IsTrue (is_of_ty s os u v) → Each (λ v. IsTrue (is_of_ty s os t v)) (elements_of v)
  unfolding is_of_ty
  elements_are (ty.Array a) t v h r = array_elements a t v h r
  elements_are (ty.Scalar a) t v h r = let clash : false ≡ true = h in absurd cc
  elements_are (ty.Object a) t v h r = let clash : false ≡ true = h in absurd cc
  elements_are (ty.Tuple' _ ts) t v h r = let clash : false ≡ true = h in absurd cc

  pub plain_in : (t : Ty) (v : Val) → IsTrue (plain_type t v) → IsTrue (is_of_ty s os t v)
  unfolding is_of_ty
  plain_in (ty.Scalar a) v h = h
  plain_in (ty.Array a) v h = h
  plain_in (ty.Object a) v h = let clash : false ≡ true = h in absurd cc
  plain_in (ty.Tuple' _ ts) v h = let clash : false ≡ true = h in absurd cc

  -- ---- functions of sets

  all_widened : (u t : Ty) (vs : List Val) → IsTrue (widens s u t) → Each (Of (types s os args) u) vs → Each (λ v. IsTrue (is_of_ty s os t v)) vs
  all_widened u t [] h r = tt
  all_widened u t (v ∷ vs) h r = (widen_in u t v h r.0, all_widened u t vs h r.1)

  function_in : (f : SetFunction) (u t : Ty) (vs : List Val) → IsTrue (function_gives s f u t) → Each (Of (types s os args) u) vs → EachValue (λ v. IsTrue (is_of_ty s os t v)) (of_values f vs)
  function_in function.Count u t vs h r = typed_in scalar.Int64 t (int_item (pos (length vs))) h (int_typed (pos (length vs)))
  function_in function.Sum u t vs h r = typed_in scalar.Int64 t (int_item (total vs)) h (int_typed (total vs))
  function_in function.Any u t vs h r = typed_in scalar.Bool t (bool_item (list_any is_true vs)) h (refl, tt)
  function_in function.All u t vs h r = typed_in scalar.Bool t (bool_item (list_all is_true vs)) h (refl, tt)
  function_in function.Exists u t vs h r = typed_in scalar.Bool t (bool_item (not (is_empty vs))) h (refl, tt)
  function_in function.Min u t vs h r = optional_in (is_of_ty s os t) (least vs) (least_in (is_of_ty s os t) vs (all_widened u t vs h r))
  function_in function.Max u t vs h r = optional_in (is_of_ty s os t) (greatest vs) (greatest_in (is_of_ty s os t) vs (all_widened u t vs h r))
  function_in function.Distinct u t vs h r = each_all_of (λ v. IsTrue (is_of_ty s os t v)) (distinct same vs) (distinct_in (is_of_ty s os t) vs (all_widened u t vs h r))
  function_in function.AssertSingle u t vs h r = asserted_in (is_of_ty s os t) (single_fault vs) vs (all_widened u t vs h r)
  function_in function.AssertExists u t vs h r = asserted_in (is_of_ty s os t) (exists_fault vs) vs (all_widened u t vs h r)
  function_in function.AssertDistinct u t vs h r = asserted_in (is_of_ty s os t) (distinct_fault same vs) vs (all_widened u t vs h r)
  function_in function.ArrayAgg u t vs h r = (aggregated u t vs h r, tt)

  pub types_are_sound : AreSound (types s os args)
  types_are_sound = record {
    widening = λ u t v h r. widen_in u t v h r;
    literals = λ v t h. plain_in t v h;
    operations = λ o us t vs h a. typed_in (result_of o) t (item_of_op o vs) h (op_typed o vs);
    casts = λ y u t v h r. typed_in y t (item_of_cast y v) h (cast_typed y v);
    functions = λ f u t vs h r. function_in f u t vs h r;
    truths = λ t b h. scalar_in scalar.Bool t (made.Bool b) h refl;
    tuples = λ us t vs h a. tuple_in us t vs h a;
    components = λ t v h. components_in t v h;
    arrays = λ us t vs h a. array_of us t vs h a;
    elements = λ u t v h r. elements_are u t v h r;
  }
