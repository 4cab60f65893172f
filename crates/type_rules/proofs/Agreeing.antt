-- What types agree on, as the code makes them.
use Rattle.std.proofs.Common.{◌≡◌, List, [], ◌∷◌, ◌++◌, Option, Some, None, refl, ap, sym}
use Rattle.ev_value.specs.declared.value.ScalarTy.{ScalarTy}
use Rattle.core_ir.specs.declared.path.TypeId.{TypeId}
use Rattle.core_ir.specs.declared.ty.Ty.{Ty}
use Rattle.core_ir.specs.declared.ty.Ty.TheVariants as ty
use Rattle.core_ir.specs.declared.ty.Ty.TheBlock as block
use Rattle.ev_schema.specs.declared.types.TypeInfo.{TypeInfo}
use Rattle.type_rules.specs.Agreement.{one_scalar, one_array, as_tuple, higher, agreed, agreed_parts, agreed_each, with_first}
use Rattle.std.proofs.lemmas.List.{append_assoc}
use denote.Hole.Carrier as carrier

-- some types with those behind them, if there are any
abbrev pub behind : List Ty → Option (List Ty) → Option (List Ty)
behind done None = None
behind done (Some more) = Some (done ++ more)

pub behind_nothing : (more : Option (List Ty)) → behind [] more ≡ more
behind_nothing None = refl
behind_nothing (Some more) = refl

pub behind_one : (done : List Ty) (t : Ty) (more : Option (List Ty)) → behind done (with_first (Some t) more) ≡ behind (done ++ t ∷ []) more
behind_one done t None = refl
behind_one done t (Some more) = ap Some (sym (append_assoc done (t ∷ []) more))

module _ (types : List TypeInfo) where
  row : (ts us : List Ty) → agreed_parts types (block.hidden-the_row-Ty-0 ts) (block.hidden-the_row-Ty-0 us) ≡ agreed_each types ts us
  unfolding agreed block.hidden-the_row-Ty-0 carrier.hidden
  row [] [] = refl
  row [] (u ∷ us) = refl
  row (t ∷ ts) [] = refl
  row (t ∷ ts) (u ∷ us) = ap (with_first (agreed types t u)) (row ts us)

  pub scalars : (a b : ScalarTy) → agreed types (ty.Scalar a) (ty.Scalar b) ≡ one_scalar a b
  unfolding agreed
  scalars a b = refl

  pub arrays : (a b : ScalarTy) → agreed types (ty.Array a) (ty.Array b) ≡ one_array a b
  unfolding agreed
  arrays a b = refl

  pub objects : (a b : TypeId) → agreed types (ty.Object a) (ty.Object b) ≡ higher types a b
  unfolding agreed
  objects a b = refl

  pub tuples : (ts us : List Ty) → agreed types (ty.Tuple ts) (ty.Tuple us) ≡ as_tuple (agreed_each types ts us)
  unfolding agreed
  tuples ts us = ap as_tuple (row ts us)

  pub scalar_object : (a : ScalarTy) (b : TypeId) → agreed types (ty.Scalar a) (ty.Object b) ≡ None
  unfolding agreed
  scalar_object a b = refl

  pub scalar_tuple : (a : ScalarTy) (b : List Ty) → agreed types (ty.Scalar a) (ty.Tuple b) ≡ None
  unfolding agreed
  scalar_tuple a b = refl

  pub scalar_array : (a : ScalarTy) (b : ScalarTy) → agreed types (ty.Scalar a) (ty.Array b) ≡ None
  unfolding agreed
  scalar_array a b = refl

  pub object_scalar : (a : TypeId) (b : ScalarTy) → agreed types (ty.Object a) (ty.Scalar b) ≡ None
  unfolding agreed
  object_scalar a b = refl

  pub object_tuple : (a : TypeId) (b : List Ty) → agreed types (ty.Object a) (ty.Tuple b) ≡ None
  unfolding agreed
  object_tuple a b = refl

  pub object_array : (a : TypeId) (b : ScalarTy) → agreed types (ty.Object a) (ty.Array b) ≡ None
  unfolding agreed
  object_array a b = refl

  pub tuple_scalar : (a : List Ty) (b : ScalarTy) → agreed types (ty.Tuple a) (ty.Scalar b) ≡ None
  unfolding agreed
  tuple_scalar a b = refl

  pub tuple_object : (a : List Ty) (b : TypeId) → agreed types (ty.Tuple a) (ty.Object b) ≡ None
  unfolding agreed
  tuple_object a b = refl

  pub tuple_array : (a : List Ty) (b : ScalarTy) → agreed types (ty.Tuple a) (ty.Array b) ≡ None
  unfolding agreed
  tuple_array a b = refl

  pub array_scalar : (a : ScalarTy) (b : ScalarTy) → agreed types (ty.Array a) (ty.Scalar b) ≡ None
  unfolding agreed
  array_scalar a b = refl

  pub array_object : (a : ScalarTy) (b : TypeId) → agreed types (ty.Array a) (ty.Object b) ≡ None
  unfolding agreed
  array_object a b = refl

  pub array_tuple : (a : ScalarTy) (b : List Ty) → agreed types (ty.Array a) (ty.Tuple b) ≡ None
  unfolding agreed
  array_tuple a b = refl

pub ruleset agreed_forms = (scalars, arrays, objects, tuples, scalar_object, scalar_tuple, scalar_array, object_scalar, object_tuple, object_array, tuple_scalar, tuple_object, tuple_array, array_scalar, array_object, array_tuple)
