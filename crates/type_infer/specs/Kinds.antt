-- What kind of type a type is.
use Rattle.std.specs.Prelude.{Bool, true, false, Option, Some, None}
use Rattle.ev_value.specs.declared.value.ScalarTy.{ScalarTy}
use Rattle.core_ir.specs.declared.ty.Ty.{Ty}
use Rattle.core_ir.specs.declared.ty.Ty as ty

-- whether a type is a scalar one
abbrev pub is_scalar : Ty → Bool
is_scalar (ty.Scalar _) = true
is_scalar _ = false

-- whether a type is one of objects
abbrev pub is_object : Ty → Bool
is_object (ty.Object _) = true
is_object _ = false

-- the elements' type of an array type
abbrev pub array_element : Ty → Option ScalarTy
array_element (ty.Array scalar) = Some scalar
array_element _ = None
