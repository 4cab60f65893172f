-- Types at the code's constructors: equal ones, and what the tables say of them.
use Rattle.std.proofs.Common.{◌≡◌, ℕ, zero, suc, ℤ, pos, negsuc, Bool, true, false, ◌&&◌, List, [], ◌∷◌, Option, Some, None, slice_get, refl, ap}
use Rattle.ev_value.specs.declared.value.ScalarTy.{ScalarTy}
use Rattle.ev_value.specs.declared.value.ScalarTy.TheVariants as scalar
use Rattle.sql_ast.specs.declared.expression.Function.{Function}
use Rattle.sql_ast.specs.declared.expression.Function.TheVariants as function
use Rattle.sql_ast.specs.declared.ty.SqlTy as d
use Rattle.sql_ast.specs.declared.ty.SqlTy.{SqlTy}
use Rattle.sql_ast.specs.declared.ty.SqlTy.TheBlock as block
use Rattle.sql_ast.specs.declared.ty.SqlTy.TheVariants as ty
use Rattle.sql_ast.specs.Types.{BOOL}
use Rattle.sql_check.specs.declared.sort.Sort.{Sort}
use Rattle.sql_check.specs.declared.verdict.Verdict.TheVariants.{Fails}
use Rattle.sql_check.specs.Types.{same_scalar, same_type, same_types, all_same, agree, alike, is_of, is_array, has_if, has_some, compared, element_of, function_verdict, casts, cast_verdict, type_at, part_verdict, arg_verdict}
use Rattle.sql_check.specs.TypeLists.{elements_verdict, scalar_verdict, place_of, part_of}
use denote.Hole.Carrier as carrier

-- ---- equal types

pub same_scalars : (a b : ScalarTy) → same_type (ty.Scalar a) (ty.Scalar b) ≡ same_scalar a b
unfolding same_type
same_scalars a b = refl

same_hidden : (ts us : List SqlTy) → same_types (block.hidden-the_row-SqlTy-0 ts) (block.hidden-the_row-SqlTy-0 us) ≡ all_same ts us
unfolding same_type block.hidden-the_row-SqlTy-0 carrier.hidden
same_hidden [] [] = refl
same_hidden [] (u ∷ us) = refl
same_hidden (t ∷ ts) [] = refl
same_hidden (t ∷ ts) (u ∷ us) = ap (λ b. same_type t u && b) (same_hidden ts us)

pub same_rows : (ts us : List SqlTy) → same_type (ty.Row ts) (ty.Row us) ≡ all_same ts us
unfolding same_type
same_rows ts us = same_hidden ts us

pub same_arrays : (t u : SqlTy) → same_type (ty.Array t) (ty.Array u) ≡ same_type t u
unfolding same_type block.hidden-the_row-SqlTy-1 carrier.hidden
same_arrays t u = refl

pub scalar_row : (a : ScalarTy) (us : List SqlTy) → same_type (ty.Scalar a) (ty.Row us) ≡ false
unfolding same_type
scalar_row a us = refl

pub scalar_array : (a : ScalarTy) (u : SqlTy) → same_type (ty.Scalar a) (ty.Array u) ≡ false
unfolding same_type
scalar_array a u = refl

pub row_scalar : (ts : List SqlTy) (b : ScalarTy) → same_type (ty.Row ts) (ty.Scalar b) ≡ false
unfolding same_type
row_scalar ts b = refl

pub row_array : (ts : List SqlTy) (u : SqlTy) → same_type (ty.Row ts) (ty.Array u) ≡ false
unfolding same_type
row_array ts u = refl

pub array_scalar : (t : SqlTy) (b : ScalarTy) → same_type (ty.Array t) (ty.Scalar b) ≡ false
unfolding same_type block.hidden-the_row-SqlTy-1 carrier.hidden
array_scalar t b = refl

pub array_row : (t : SqlTy) (us : List SqlTy) → same_type (ty.Array t) (ty.Row us) ≡ false
unfolding same_type block.hidden-the_row-SqlTy-1 carrier.hidden
array_row t us = refl

pub array_of : (t : SqlTy) → is_array (ty.Array t) ≡ true
array_of t = refl

pub scalar_itself : (s : ScalarTy) → same_scalar s s ≡ true
scalar_itself scalar.Int64 = refl
scalar_itself scalar.Str = refl
scalar_itself scalar.Bool = refl
scalar_itself scalar.Uuid = refl

pub both_true : (a b : Bool) → a ≡ true → b ≡ true → (a && b) ≡ true
both_true a b e f = rw (e, f) refl

mutual
  unfolding same_type

  pub same_itself : (t : SqlTy) → same_type t t ≡ true
  same_itself (d.Scalar s) = scalar_itself s
  same_itself (d.Row' _ row) = row_itself row
  same_itself (d.Array' _ (d.more_of-SqlTy t d.end_of-SqlTy)) = same_itself t

  row_itself : {m : _} (row : d.Row_of-SqlTy m) → same_types row row ≡ true
  row_itself d.end_of-SqlTy = refl
  row_itself (d.more_of-SqlTy t row) = both_true (same_type t t) (same_types row row) (same_itself t) (row_itself row)

agrees_itself : (o : Option SqlTy) → agree o o ≡ true
agrees_itself None = refl
agrees_itself (Some t) = same_itself t

pub like_itself : (l : List Sort) → alike l l ≡ true
like_itself [] = refl
like_itself (x ∷ more) = both_true (agree x.ty x.ty) (alike more more) (agrees_itself x.ty) (like_itself more)

-- ---- the tables

pub element_scalar : (s : ScalarTy) → element_of (ty.Scalar s) ≡ None
unfolding element_of
element_scalar s = refl

pub element_row : (ts : List SqlTy) → element_of (ty.Row ts) ≡ None
unfolding element_of
element_row ts = refl

pub element_array : (t : SqlTy) → element_of (ty.Array t) ≡ Some t
unfolding element_of block.hidden-the_row-SqlTy-1 carrier.hidden
element_array t = refl

pub compared_row : (ts : List SqlTy) (b : SqlTy) → compared (ty.Row ts) b ≡ Fails
compared_row ts b = refl

pub compared_array : (t b : SqlTy) → compared (ty.Array t) b ≡ Fails
compared_array t b = refl

pub compared_scalar : (a : ScalarTy) (b : SqlTy) → compared (ty.Scalar a) b ≡ has_if (is_of a b) BOOL
compared_scalar a (d.Scalar b) = refl
compared_scalar a (d.Row' _ row) = refl
compared_scalar a (d.Array' _ row) = refl

pub cast_scalars : (from to : ScalarTy) → cast_verdict (ty.Scalar from) (ty.Scalar to) ≡ has_if (casts from to) (ty.Scalar to)
cast_scalars from to = refl

pub cast_row : (ts : List SqlTy) (t : SqlTy) → cast_verdict (ty.Row ts) t ≡ Fails
cast_row ts t = refl

pub cast_array : (u t : SqlTy) → cast_verdict (ty.Array u) t ≡ Fails
cast_array u t = refl

pub cast_to_row : (from : ScalarTy) (ts : List SqlTy) → cast_verdict (ty.Scalar from) (ty.Row ts) ≡ Fails
cast_to_row from ts = refl

pub cast_to_array : (from : ScalarTy) (u : SqlTy) → cast_verdict (ty.Scalar from) (ty.Array u) ≡ Fails
cast_to_array from u = refl

pub function_scalar : (called : Function) (s : ScalarTy) → function_verdict called (ty.Scalar s) ≡ scalar_verdict called s
unfolding element_of
function_scalar function.Len s = refl
function_scalar function.CountOf s = refl
function_scalar function.SumOf s = refl
function_scalar function.MinOf s = refl
function_scalar function.MaxOf s = refl
function_scalar function.AnyOf s = refl
function_scalar function.AllOf s = refl
function_scalar function.AssertSingle s = refl
function_scalar function.AssertExists s = refl
function_scalar function.AssertDistinct s = refl

pub function_row : (called : Function) (ts : List SqlTy) → function_verdict called (ty.Row ts) ≡ Fails
unfolding element_of
function_row function.Len ts = refl
function_row function.CountOf ts = refl
function_row function.SumOf ts = refl
function_row function.MinOf ts = refl
function_row function.MaxOf ts = refl
function_row function.AnyOf ts = refl
function_row function.AllOf ts = refl
function_row function.AssertSingle ts = refl
function_row function.AssertExists ts = refl
function_row function.AssertDistinct ts = refl

pub function_array : (called : Function) (t : SqlTy) → function_verdict called (ty.Array t) ≡ elements_verdict called (ty.Array t) t
unfolding element_of block.hidden-the_row-SqlTy-1 carrier.hidden
function_array function.Len t = refl
function_array function.CountOf t = refl
function_array function.SumOf t = refl
function_array function.MinOf t = refl
function_array function.MaxOf t = refl
function_array function.AnyOf t = refl
function_array function.AllOf t = refl
function_array function.AssertSingle t = refl
function_array function.AssertExists t = refl
function_array function.AssertDistinct t = refl

pub arg_scalar : (s : ScalarTy) (first : SqlTy) → arg_verdict (ty.Scalar s) (Some first) ≡ has_if (is_of s first) (ty.Scalar s)
arg_scalar s first = refl

pub arg_none : (s : ScalarTy) → arg_verdict (ty.Scalar s) None ≡ Fails
arg_none s = refl

pub arg_row : (ts : List SqlTy) (o : Option SqlTy) → arg_verdict (ty.Row ts) o ≡ Fails
arg_row ts o = refl

pub arg_array : (t : SqlTy) (o : Option SqlTy) → arg_verdict (ty.Array t) o ≡ Fails
arg_array t o = refl

-- ---- parts of rows

type_hidden : (ts : List SqlTy) (n : ℕ) → type_at (block.hidden-the_row-SqlTy-0 ts) n ≡ slice_get ts n
unfolding type_at block.hidden-the_row-SqlTy-0 carrier.hidden
type_hidden [] n = refl
type_hidden (t ∷ ts) zero = refl
type_hidden (t ∷ ts) (suc n) = type_hidden ts n

pub part_scalar : (s : ScalarTy) (z : ℤ) → part_verdict (ty.Scalar s) z ≡ Fails
unfolding part_verdict
part_scalar s z = refl

pub part_array : (t : SqlTy) (z : ℤ) → part_verdict (ty.Array t) z ≡ Fails
unfolding part_verdict
part_array t z = refl

pub part_row : (ts : List SqlTy) (z : ℤ) → part_verdict (ty.Row ts) z ≡ has_some (part_of ts (place_of z))
unfolding part_verdict
part_row ts (pos zero) = refl
part_row ts (pos (suc n)) = ap has_some (type_hidden ts n)
part_row ts (negsuc n) = refl
