-- When types agree, and the type that they agree on.
use Rattle.std.specs.Prelude.{Bool, true, false, ◌||◌, if◌then◌else◌, List, [], ◌∷◌, Option, Some, None}
use Rattle.ev_value.specs.declared.value.ScalarTy.{ScalarTy}
use Rattle.ev_value.specs.declared.value.ScalarTy.TheVariants as scalar
use Rattle.core_ir.specs.declared.path.TypeId.{TypeId}
use Rattle.core_ir.specs.declared.ty.Ty.{Ty, Row_of-Ty, end_of-Ty, more_of-Ty}
use Rattle.core_ir.specs.declared.ty.Ty as ty
use Rattle.core_ir.specs.declared.ty.Ty.TheVariants as made
use Rattle.ev_schema.specs.Types.{is_subtype}
use Rattle.ev_schema.specs.declared.types.TypeInfo.{TypeInfo}

-- whether two scalar types are one
abbrev pub same_scalar : ScalarTy → ScalarTy → Bool
same_scalar scalar.Int64 scalar.Int64 = true
same_scalar scalar.Str scalar.Str = true
same_scalar scalar.Bool scalar.Bool = true
same_scalar scalar.Uuid scalar.Uuid = true
same_scalar _ _ = false

-- a scalar type that is another one
abbrev pub one_scalar : ScalarTy → ScalarTy → Option Ty
one_scalar a b = if same_scalar a b then Some (made.Scalar a) else None

-- an array type that is another one, by their elements' types
abbrev pub one_array : ScalarTy → ScalarTy → Option Ty
one_array a b = if same_scalar a b then Some (made.Array a) else None

-- the tuple of some types, if there are any
abbrev pub as_tuple : Option (List Ty) → Option Ty
as_tuple None = None
as_tuple (Some types) = Some (made.Tuple types)

-- the types of all components, where the first ones and those behind it have one
abbrev pub with_first : Option Ty → Option (List Ty) → Option (List Ty)
with_first (Some t) (Some more) = Some (t ∷ more)
with_first _ _ = None

module _ (types : List TypeInfo) where
  -- whether two object types are one, or the one extends the other
  abbrev pub related : TypeId → TypeId → Bool
  related a b = is_subtype types a b || is_subtype types b a

  -- the higher one of two related object types
  abbrev pub higher : TypeId → TypeId → Option Ty
  higher a b = if is_subtype types a b then Some (made.Object b) else (if is_subtype types b a then Some (made.Object a) else None)

  -- The type that two types agree on: one scalar type, one array type, the higher of two related object types, or the tuple of
  -- what the components of two tuples of one length agree on.
  unfoldable mutual
    pub agreed : Ty → Ty → Option Ty
    agreed (ty.Scalar a) (ty.Scalar b) = one_scalar a b
    agreed (ty.Object a) (ty.Object b) = higher a b
    agreed (ty.Tuple' _ parts) (ty.Tuple' _ others) = as_tuple (agreed_parts parts others)
    agreed (ty.Array a) (ty.Array b) = one_array a b
    agreed _ _ = None

    -- the types that two lists of types agree on, one by one
    pub agreed_parts : {m n : _} → Row_of-Ty m → Row_of-Ty n → Option (List Ty)
    agreed_parts end_of-Ty end_of-Ty = Some []
    agreed_parts (more_of-Ty a more) (more_of-Ty b others) = with_first (agreed a b) (agreed_parts more others)
    agreed_parts _ _ = None

  -- the same of lists of types as they stand in the code
  abbrev pub agreed_each : List Ty → List Ty → Option (List Ty)
  agreed_each [] [] = Some []
  agreed_each (a ∷ more) (b ∷ others) = with_first (agreed a b) (agreed_each more others)
  agreed_each _ _ = None

  -- what a type agreed so far and those behind it agree on, each in turn with what those before it agree on
  abbrev pub agreed_from : Option Ty → List Ty → Option Ty
  agreed_from None more = None
  agreed_from (Some a) [] = Some a
  agreed_from (Some a) (b ∷ more) = agreed_from (agreed a b) more

  -- what the types of some elements agree on from the left; without elements there is nothing to agree on
  abbrev pub agreed_among : List Ty → Option Ty
  agreed_among [] = None
  agreed_among (t ∷ more) = agreed_from (Some t) more
