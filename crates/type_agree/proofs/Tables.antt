-- What the tables of the rules give, as kinds ask for it.
use Rattle.std.proofs.Common.{◌≡◌, IsTrue, ℕ, suc, Bool, true, false, Option, Some, None, List, [], ◌∷◌, refl, sym, ap, ◌∙◌, subst}
use Rattle.ev_value.specs.declared.operator.Op.{Op}
use Rattle.ev_value.specs.declared.operator.Op.TheVariants as op
use Rattle.ev_value.specs.declared.value.ScalarTy.{ScalarTy}
use Rattle.ev_value.specs.declared.value.ScalarTy.TheVariants as scalar
use Rattle.ev_value.specs.declared.value.Val.{Val}
use Rattle.ev_value.specs.declared.value.Val as val
use Rattle.core_ir.specs.declared.tree.SetFunction.{SetFunction}
use Rattle.core_ir.specs.declared.tree.SetFunction.TheVariants as function
use Rattle.core_ir.specs.declared.ty.Ty.{Ty, Row_of-Ty, end_of-Ty, more_of-Ty}
use Rattle.core_ir.specs.declared.ty.Ty as ty
use Rattle.core_ir.specs.declared.ty.Ty.TheVariants as made
use Rattle.core_ir.specs.declared.ty.Ty.TheBlock as block
use denote.Hole.Carrier as carrier
use Rattle.ev_schema.specs.declared.schema.Schema.{Schema}
use Rattle.ev_schema.specs.declared.types.TypeInfo.{TypeInfo}
use Rattle.type_rules.specs.Tables.{literal, is_of, when, operator_type, function_type, same_as, elements_type}
use Rattle.type_rules.specs.Agreement as rules
use Rattle.type_infer.specs.Kinds.{array_element}
use Rattle.store_agree.specs.Typed.{plain_type, is_scalar, are_scalar, part_at, part_of, makes_array, gives_element, result_of, widens, parts_widen, makes_tuple, function_gives}
use Rattle.type_agree.proofs.Widened.{both, none_some, some_same, chosen, scalar_itself, scalar_is, itself}

pub scalar_at : (a : ScalarTy) (t : Ty) → made.Scalar a ≡ t → IsTrue (is_scalar a t)
scalar_at a t e = subst (λ t. IsTrue (is_scalar a t)) e (scalar_itself a)

-- a literal is of its type
pub literal_has : (v : Val) (a : ScalarTy) → literal v ≡ Some a → IsTrue (plain_type (made.Scalar a) v)
literal_has (val.Int z) a e = subst (λ a. IsTrue (plain_type (made.Scalar a) (val.Int z))) (some_same e) refl
literal_has (val.Str z) a e = subst (λ a. IsTrue (plain_type (made.Scalar a) (val.Str z))) (some_same e) refl
literal_has (val.Bool z) a e = subst (λ a. IsTrue (plain_type (made.Scalar a) (val.Bool z))) (some_same e) refl
literal_has (val.Id z) a e = subst (λ a. IsTrue (plain_type (made.Scalar a) (val.Id z))) (some_same e) refl
literal_has (val.Obj z) a e = none_some e
literal_has (val.Tuple' f vs) a e = none_some e
literal_has (val.Array' f vs) a e = none_some e

-- what an operator gives is of its result
given_when : (b : Bool) (a : ScalarTy) (t : Ty) → when b a ≡ Some t → IsTrue (is_scalar a t)
given_when true a t e = scalar_at a t (some_same e)
given_when false a t e = none_some e

pub operator_has : (types : List TypeInfo) (o : Op) (us : List Ty) (t : Ty) → operator_type types o us ≡ Some t → IsTrue (is_scalar (result_of o) t)
operator_has types op.Add us t e = given_when _ _ t e
operator_has types op.Sub us t e = given_when _ _ t e
operator_has types op.Mul us t e = given_when _ _ t e
operator_has types op.FloorDiv us t e = given_when _ _ t e
operator_has types op.Mod us t e = given_when _ _ t e
operator_has types op.Neg us t e = given_when _ _ t e
operator_has types op.Concat us t e = given_when _ _ t e
operator_has types op.Len us t e = given_when _ _ t e
operator_has types op.Eq us t e = given_when _ _ t e
operator_has types op.Ne us t e = given_when _ _ t e
operator_has types op.Lt us t e = given_when _ _ t e
operator_has types op.Le us t e = given_when _ _ t e
operator_has types op.Gt us t e = given_when _ _ t e
operator_has types op.Ge us t e = given_when _ _ t e
operator_has types op.And us t e = given_when _ _ t e
operator_has types op.Or us t e = given_when _ _ t e
operator_has types op.Not us t e = given_when _ _ t e

-- the elements of an array are of its type
is_of_scalar : (a : ScalarTy) (t : Ty) → is_of a t ≡ true → IsTrue (is_scalar a t)
is_of_scalar a (ty.Scalar b) h = scalar_at a (made.Scalar b) (ap (λ c. made.Scalar c) (scalar_is a b h))
is_of_scalar a (ty.Object b) h = absurd cc
is_of_scalar a (ty.Tuple' f b) h = absurd cc
is_of_scalar a (ty.Array b) h = absurd cc

all_as : (a b : ScalarTy) (us : List Ty) → same_as a us ≡ Some b → (a ≡ b) × IsTrue (are_scalar a us)
all_as a b [] e = (some_same e, refl)
all_as a b (u ∷ us) e =
    chosen (is_of a u) (same_as a us) None (Some b) e
    (λ h i. let q = all_as a b us i in (q.0, both (is_scalar a u) (are_scalar a us) (is_of_scalar a u h) q.1))
    (λ h i. none_some i)

pub array_has : (written : Option ScalarTy) (us : List Ty) (a : ScalarTy) → elements_type written us ≡ Some a → IsTrue (makes_array us (made.Array a))
array_has written [] a e = refl
array_has written (ty.Scalar b ∷ us) a e =
    let q = all_as b a us e in
    subst (λ a. IsTrue (are_scalar a (ty.Scalar b ∷ us))) q.0 (both (is_scalar b (ty.Scalar b)) (are_scalar b us) (scalar_itself b) q.1)
array_has written (ty.Object b ∷ us) a e = none_some e
array_has written (ty.Tuple' f b ∷ us) a e = none_some e
array_has written (ty.Array b ∷ us) a e = none_some e

-- the elements of an array that is unpacked
pub element_has : (u : Ty) (a : ScalarTy) → array_element u ≡ Some a → IsTrue (gives_element u (made.Scalar a))
element_has (ty.Array b) a e = scalar_at b (made.Scalar a) (ap (λ c. made.Scalar c) (some_same e))
element_has (ty.Scalar b) a e = none_some e
element_has (ty.Object b) a e = none_some e
element_has (ty.Tuple' f b) a e = none_some e

-- an array that is cast has the type already
pub cast_array_is : (u : Ty) (to from : ScalarTy) → array_element u ≡ Some from → rules.same_scalar to from ≡ true → u ≡ made.Array to
cast_array_is (ty.Array b) to from e h = ap (λ c. made.Array c) (some_same e ∙ sym (scalar_is to from h))
cast_array_is (ty.Scalar b) to from e h = none_some e
cast_array_is (ty.Object b) to from e h = none_some e
cast_array_is (ty.Tuple' f b) to from e h = none_some e

-- ---- functions of sets and tuples

module _ (s : Schema) where
  widens_at : (u t : Ty) → ◌≡◌ {A = Option Ty} (Some u) (Some t) → IsTrue (widens s u t)
  widens_at u t e = subst (λ t. IsTrue (widens s u t)) (some_same e) (itself s u)

  pub function_has : (f : SetFunction) (u t : Ty) → function_type f u ≡ Some t → IsTrue (function_gives s f u t)
  function_has function.Count u t e = scalar_at scalar.Int64 t (some_same e)
  function_has function.Exists u t e = scalar_at scalar.Bool t (some_same e)
  function_has function.Distinct u t e = widens_at u t e
  function_has function.AssertSingle u t e = widens_at u t e
  function_has function.AssertExists u t e = widens_at u t e
  function_has function.AssertDistinct u t e = widens_at u t e
  function_has function.Sum (ty.Scalar scalar.Int64) t e = scalar_at scalar.Int64 t (some_same e)
  function_has function.Any (ty.Scalar scalar.Bool) t e = scalar_at scalar.Bool t (some_same e)
  function_has function.All (ty.Scalar scalar.Bool) t e = scalar_at scalar.Bool t (some_same e)
  function_has function.Min (ty.Scalar a) t e = widens_at (made.Scalar a) t e
  function_has function.Max (ty.Scalar a) t e = widens_at (made.Scalar a) t e
  function_has function.ArrayAgg (ty.Scalar a) t e = subst (λ t. IsTrue (gives_element t (made.Scalar a))) (some_same e) (scalar_itself a)
  function_has _ _ t e = none_some e

  -- a tuple of types is made of them
  parts_itself : (us : List Ty) → IsTrue (parts_widen s us (block.hidden-the_row-Ty-0 us))
  unfolding carrier.hidden block.hidden-the_row-Ty-0
  parts_itself [] = refl
  parts_itself (u ∷ us) = both (widens s u u) (parts_widen s us (block.hidden-the_row-Ty-0 us)) (itself s u) (parts_itself us)

  pub tuple_has : (us : List Ty) → IsTrue (makes_tuple s us (made.Tuple us))
  tuple_has us = parts_itself us

-- types by their numbers, from a number on
abbrev pub PartsFrom : (ℕ → Ty) → ℕ → List Ty → Type 0
PartsFrom f i [] = Unit {0}
PartsFrom f i (u ∷ us) = (f i ≡ u) × PartsFrom f (suc i) us

parts_behind : (f : ℕ → Ty) (i : ℕ) (us : List Ty) → PartsFrom (λ j. f (suc j)) i us → PartsFrom f (suc i) us
parts_behind f i [] h = tt
parts_behind f i (u ∷ us) h = (h.0, parts_behind f (suc i) us h.1)

row_parts : (us : List Ty) → PartsFrom (part_at (block.hidden-the_row-Ty-0 us)) 0 us
unfolding carrier.hidden block.hidden-the_row-Ty-0
row_parts [] = tt
row_parts (u ∷ us) = (refl, parts_behind (part_at (block.hidden-the_row-Ty-0 (u ∷ us))) 0 us (row_parts us))

pub tuple_parts : (us : List Ty) → PartsFrom (part_of (made.Tuple us)) 0 us
tuple_parts us = row_parts us
