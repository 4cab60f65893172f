-- What an operator, a cast, a function or a part may have as its type is what the tables of types say.
use Rattle.std.proofs.Common.{◌≡◌, ◌⊎◌, inl, inr, ℕ, suc, pos, Bool, true, ◌&&◌, List, [], Option, Some, slice_get, refl, ap, sym, ◌∙◌}
use Rattle.ev_value.specs.declared.value.ScalarTy.{ScalarTy}
use Rattle.ev_value.specs.declared.value.ScalarTy.TheVariants as scalar
use Rattle.sql_ast.specs.declared.expression.BinaryOp.{BinaryOp}
use Rattle.sql_ast.specs.declared.expression.BinaryOp.TheVariants as binary
use Rattle.sql_ast.specs.declared.expression.Function.{Function}
use Rattle.sql_ast.specs.declared.expression.Function.TheVariants as function
use Rattle.sql_ast.specs.declared.expression.UnaryOp.{UnaryOp}
use Rattle.sql_ast.specs.declared.expression.UnaryOp.TheVariants as unary
use Rattle.sql_ast.specs.declared.ty.SqlTy.{SqlTy}
use Rattle.sql_ast.specs.declared.ty.SqlTy.TheVariants as ty
use Rattle.sql_ast.specs.Types.{INT, BOOL, IsScalar, UnaryType, BinaryType, Compared, Both, FunctionType, Casts}
use Rattle.sql_check.specs.declared.verdict.Verdict.{Verdict}
use Rattle.sql_check.specs.declared.verdict.Verdict.TheVariants.{Has}
use Rattle.sql_check.specs.Types.{is_of, is_scalar, has_if, has_some, failing, wanted, closed, compared, element_of, with_element, unary_verdict, binary_verdict, function_verdict, casts, cast_verdict, part_verdict, case_verdict, arg_verdict}
use Rattle.sql_check.proofs.TyForms.{scalar_itself, same_itself, element_array, part_row}
use Rattle.sql_check.proofs.Verdicts.{IsCast}

pub of_itself : (s : ScalarTy) → is_of s (ty.Scalar s) ≡ true
of_itself s = scalar_itself s

pub unary_complete : (operator : UnaryOp) (a t : SqlTy) → UnaryType operator a t → unary_verdict operator a ≡ Has t
unary_complete unary.Neg a t h = ap (λ (x : SqlTy). unary_verdict unary.Neg x) h.0 ∙ ap Has (sym h.1)
unary_complete unary.Not a t h = ap (λ (x : SqlTy). unary_verdict unary.Not x) h.0 ∙ ap Has (sym h.1)
unary_complete unary.IsNull a t h = ap Has (sym h)
unary_complete unary.IsNotNull a t h = ap Has (sym h)

closed_complete : (s : ScalarTy) (a b t : SqlTy) → Both (ty.Scalar s) (ty.Scalar s) a b t → closed s a b ≡ Has t
closed_complete s a b t h = (λ i. closed s (h.0 i) (h.1 i)) ∙ ap (λ (x : Bool). has_if (x && x) (ty.Scalar s)) (of_itself s) ∙ ap Has (sym h.2)

compared_complete : (a b t : SqlTy) → Compared a b t → compared a b ≡ Has t
compared_complete a b t h =
    ap (λ (x : SqlTy). compared a x) h.1 ∙ (λ i. compared (h.0.1 i) (h.0.1 i)) ∙ ap (λ (x : Bool). has_if x BOOL) (scalar_itself h.0.0) ∙ ap Has (sym h.2)

pub binary_complete : (operator : BinaryOp) (a b t : SqlTy) → BinaryType operator a b t → binary_verdict operator a b ≡ Has t
binary_complete binary.Or a b t h = closed_complete scalar.Bool a b t h
binary_complete binary.And a b t h = closed_complete scalar.Bool a b t h
binary_complete binary.Eq a b t h = compared_complete a b t h
binary_complete binary.Ne a b t h = compared_complete a b t h
binary_complete binary.Lt a b t h = compared_complete a b t h
binary_complete binary.Le a b t h = compared_complete a b t h
binary_complete binary.Gt a b t h = compared_complete a b t h
binary_complete binary.Ge a b t h = compared_complete a b t h
binary_complete binary.Add a b t h = closed_complete scalar.Int64 a b t h
binary_complete binary.Sub a b t h = closed_complete scalar.Int64 a b t h
binary_complete binary.Concat a b t h = closed_complete scalar.Str a b t h
binary_complete binary.Mul a b t h = closed_complete scalar.Int64 a b t h
binary_complete binary.FloorDiv a b t h = closed_complete scalar.Int64 a b t h
binary_complete binary.Mod a b t h = closed_complete scalar.Int64 a b t h

-- a function over an array is judged by its elements
by_elements : (a u : SqlTy) (judge : SqlTy → Verdict) → a ≡ ty.Array u → with_element (element_of a) judge ≡ judge u
by_elements a u judge e = ap (λ (x : SqlTy). with_element (element_of x) judge) e ∙ ap (λ (o : Option SqlTy). with_element o judge) (element_array u)

ordered_complete : (a t : SqlTy) → IsScalar t → a ≡ ty.Array t → with_element (element_of a) (λ u. has_if (is_scalar u) u) ≡ Has t
ordered_complete a t h e = by_elements a t (λ u. has_if (is_scalar u) u) e ∙ ap (λ (x : Bool). has_if x t) (ap is_scalar h.1)

pub function_complete : (called : Function) (a t : SqlTy) → FunctionType called a t → function_verdict called a ≡ Has t
function_complete function.Len a t h = ap (λ (x : SqlTy). function_verdict function.Len x) h.0 ∙ ap Has (sym h.1)
function_complete function.CountOf a t h = by_elements a h.0 (λ u. Has INT) h.1 ∙ ap Has (sym h.2)
function_complete function.SumOf a t h = by_elements a INT (λ u. has_if (is_of scalar.Int64 u) INT) h.0 ∙ ap Has (sym h.1)
function_complete function.MinOf a t h = ordered_complete a t h.0 h.1
function_complete function.MaxOf a t h = ordered_complete a t h.0 h.1
function_complete function.AnyOf a t h = by_elements a BOOL (λ u. has_if (is_of scalar.Bool u) BOOL) h.0 ∙ ap Has (sym h.1)
function_complete function.AllOf a t h = by_elements a BOOL (λ u. has_if (is_of scalar.Bool u) BOOL) h.0 ∙ ap Has (sym h.1)
function_complete function.AssertSingle a t h = by_elements a h.0 (λ u. Has a) h.1 ∙ ap Has (sym h.2)
function_complete function.AssertExists a t h = by_elements a h.0 (λ u. Has a) h.1 ∙ ap Has (sym h.2)
function_complete function.AssertDistinct a t h = by_elements a h.0 (λ u. Has a) h.1 ∙ ap Has (sym h.2)

to_equal : (a b : ScalarTy) → b ≡ a → casts a b ≡ true
to_equal a b e = ap (λ (x : ScalarTy). casts a x) e ∙ casts_itself a
  where
    casts_itself : (s : ScalarTy) → casts s s ≡ true
    casts_itself scalar.Int64 = refl
    casts_itself scalar.Str = refl
    casts_itself scalar.Bool = refl
    casts_itself scalar.Uuid = refl

to_text : (a b : ScalarTy) → b ≡ scalar.Str → casts a b ≡ true
to_text a b e = ap (λ (x : ScalarTy). casts a x) e ∙ is_cast a
  where
    is_cast : (s : ScalarTy) → casts s scalar.Str ≡ true
    is_cast scalar.Int64 = refl
    is_cast scalar.Str = refl
    is_cast scalar.Bool = refl
    is_cast scalar.Uuid = refl

either_cast : (a b : ScalarTy) → (b ≡ a) ⊎ (b ≡ scalar.Str) → casts a b ≡ true
either_cast a b (inl e) = to_equal a b e
either_cast a b (inr e) = to_text a b e

casts_complete : (a b : ScalarTy) → Casts a b → casts a b ≡ true
casts_complete scalar.Str scalar.Int64 h = refl
casts_complete scalar.Str scalar.Str h = refl
casts_complete scalar.Str scalar.Bool h = refl
casts_complete scalar.Str scalar.Uuid h = refl
casts_complete scalar.Int64 b h = either_cast scalar.Int64 b h
casts_complete scalar.Bool b h = either_cast scalar.Bool b h
casts_complete scalar.Uuid b h = either_cast scalar.Uuid b h

pub cast_complete : (a u t : SqlTy) → IsCast a u t → cast_verdict a u ≡ Has t
cast_complete a u t h =
    (λ i. cast_verdict (h.2 i) (h.3 i)) ∙ ap (λ (x : Bool). has_if x (ty.Scalar h.1)) (casts_complete h.0 h.1 h.4) ∙ ap Has (sym h.3) ∙ ap Has (sym h.5)

pub part_complete : (ts : List SqlTy) (n : ℕ) (t : SqlTy) → slice_get ts n ≡ Some t → part_verdict (ty.Row ts) (pos (suc n)) ≡ Has t
part_complete ts n t h = part_row ts (pos (suc n)) ∙ ap has_some h

pub case_complete : (t : SqlTy) → case_verdict t t ≡ Has t
case_complete t = ap (λ (x : Bool). has_if x t) (same_itself t)

pub arg_complete : (s : ScalarTy) → arg_verdict (ty.Scalar s) (Some (ty.Scalar s)) ≡ Has (ty.Scalar s)
arg_complete s = ap (λ (x : Bool). has_if x (ty.Scalar s)) (scalar_itself s)

pub scalar_suits : (t : SqlTy) (byte : ℕ) → IsScalar t → failing (wanted is_scalar (Has t)) byte ≡ []
scalar_suits t byte h = ap (λ (x : Bool). failing (has_if x t) byte) (ap is_scalar h.1)
