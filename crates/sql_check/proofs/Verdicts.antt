-- What the tables of types say is what an operator, a cast, a function or a part may have as its type.
use Rattle.std.proofs.Common.{◌≡◌, inl, inr, ℕ, zero, suc, ℤ, pos, negsuc, Bool, true, false, ◌&&◌, List, [], ◌∷◌, Option, Some, None, slice_get, refl, ap, sym, ◌∙◌, subst}
use Rattle.ev_value.specs.declared.value.ScalarTy.{ScalarTy}
use Rattle.ev_value.specs.declared.value.ScalarTy.TheVariants as scalar
use Rattle.sql_ast.specs.declared.expression.BinaryOp.{BinaryOp}
use Rattle.sql_ast.specs.declared.expression.BinaryOp.TheVariants as binary
use Rattle.sql_ast.specs.declared.expression.Function.{Function}
use Rattle.sql_ast.specs.declared.expression.Function.TheVariants as function
use Rattle.sql_ast.specs.declared.expression.UnaryOp.{UnaryOp}
use Rattle.sql_ast.specs.declared.expression.UnaryOp.TheVariants as unary
use Rattle.sql_ast.specs.declared.catalog.Typed.{Typed}
use Rattle.sql_ast.specs.WellFormed.{types_of}
use Rattle.sql_ast.specs.declared.ty.SqlTy as d
use Rattle.sql_ast.specs.declared.ty.SqlTy.{SqlTy, Row_of-SqlTy, end_of-SqlTy, more_of-SqlTy, roll-SqlTy, out-SqlTy, items-the_row-SqlTy, roll-out-SqlTy}
use Rattle.sql_ast.specs.declared.ty.SqlTy.TheVariants as ty
use Rattle.sql_ast.specs.declared.ty.SqlTy.TheOpen as open_ty
use Rattle.sql_ast.specs.declared.ty.SqlTy.TheBlock as block
use Rattle.sql_ast.specs.Types.{INT, BOOL, IsScalar, UnaryType, BinaryType, Compared, Both, FunctionType, Casts}
use Rattle.sql_check.specs.declared.verdict.Verdict.{Verdict}
use Rattle.sql_check.specs.declared.verdict.Verdict.TheVariants.{Has}
use Rattle.sql_check.specs.Types.{same_scalar, same_type, same_types, alike, sorts_of, is_of, is_scalar, is_array, has_if, has_some, failing, wanted, closed, compared, element_of, with_element, unary_verdict, binary_verdict, function_verdict, casts, cast_verdict, type_at, part_verdict, case_verdict, arg_verdict}
use Rattle.sql_check.proofs.Emptiness.{has_it}
use Rattle.sql_check.proofs.TyForms.{both_true, same_itself}
use denote.Hole.Carrier.{shown-items, list-listed}
use denote.Hole.Carrier as carrier
use mathlib.Core.Former.{Count, list, list_count, this}

-- ---- types as cases see them

abbrev pub types_in : {m : Count} → Row_of-SqlTy m → List SqlTy
types_in {m = m} row = items-the_row-SqlTy m row

row_opens : (s : List (Unit {0})) (row : Row_of-SqlTy (list_count (this {0}) s 0)) → out-SqlTy (d.Row' s row) ≡ open_ty.Row (types_in row)
unfolding out-SqlTy carrier.out block.shown-the_row-SqlTy-0
row_opens s row = ap open_ty.Row (shown-items (list (this {0})) SqlTy Row_of-SqlTy block.view-the_row-SqlTy (λ x. x) (list-listed SqlTy) s row)

pub row_is : (s : List (Unit {0})) (row : Row_of-SqlTy (list_count (this {0}) s 0)) → d.Row' s row ≡ ty.Row (types_in row)
row_is s row = sym (roll-out-SqlTy (d.Row' s row)) ∙ ap roll-SqlTy (row_opens s row) ∙ ty.rolls-Row (types_in row)

pub array_is : (s : _) (x : SqlTy) → d.Array' s (more_of-SqlTy x end_of-SqlTy) ≡ ty.Array x
unfolding block.hidden-the_row-SqlTy-1 carrier.hidden
array_is s x = refl

-- ---- equal types

pub equal_scalars : (a b : ScalarTy) → same_scalar a b ≡ true → b ≡ a
equal_scalars scalar.Int64 scalar.Int64 h = refl
equal_scalars scalar.Str scalar.Str h = refl
equal_scalars scalar.Bool scalar.Bool h = refl
equal_scalars scalar.Uuid scalar.Uuid h = refl
equal_scalars scalar.Int64 scalar.Str h = absurd (cc h)
equal_scalars scalar.Int64 scalar.Bool h = absurd (cc h)
equal_scalars scalar.Int64 scalar.Uuid h = absurd (cc h)
equal_scalars scalar.Str scalar.Int64 h = absurd (cc h)
equal_scalars scalar.Str scalar.Bool h = absurd (cc h)
equal_scalars scalar.Str scalar.Uuid h = absurd (cc h)
equal_scalars scalar.Bool scalar.Int64 h = absurd (cc h)
equal_scalars scalar.Bool scalar.Str h = absurd (cc h)
equal_scalars scalar.Bool scalar.Uuid h = absurd (cc h)
equal_scalars scalar.Uuid scalar.Int64 h = absurd (cc h)
equal_scalars scalar.Uuid scalar.Str h = absurd (cc h)
equal_scalars scalar.Uuid scalar.Bool h = absurd (cc h)

pub first_true : (a b : Bool) → (a && b) ≡ true → a ≡ true
first_true true b h = refl
first_true false b h = h

pub second_true : (a b : Bool) → (a && b) ≡ true → b ≡ true
second_true true b h = h
second_true false b h = absurd (cc h)

mutual
  unfolding same_type

  pub equal_types : (a b : SqlTy) → same_type a b ≡ true → b ≡ a
  equal_types (d.Scalar a) (d.Scalar b) h = ap d.Scalar (equal_scalars a b h)
  equal_types (d.Scalar a) (d.Row' _ row) h = absurd (cc h)
  equal_types (d.Scalar a) (d.Array' _ row) h = absurd (cc h)
  equal_types (d.Row' s parts) (d.Scalar b) h = absurd (cc h)
  equal_types (d.Row' s parts) (d.Row' u others) h = row_is u others ∙ ap ty.Row (equal_rows parts others h) ∙ sym (row_is s parts)
  equal_types (d.Row' s parts) (d.Array' _ row) h = absurd (cc h)
  equal_types (d.Array' s (more_of-SqlTy a end_of-SqlTy)) (d.Scalar b) h = absurd (cc h)
  equal_types (d.Array' s (more_of-SqlTy a end_of-SqlTy)) (d.Row' _ row) h = absurd (cc h)
  equal_types (d.Array' s (more_of-SqlTy a end_of-SqlTy)) (d.Array' u (more_of-SqlTy b end_of-SqlTy)) h = array_is u b ∙ ap ty.Array (equal_types a b h) ∙ sym (array_is s a)

  equal_rows : {m n : Count} (xs : Row_of-SqlTy m) (ys : Row_of-SqlTy n) → same_types xs ys ≡ true → types_in ys ≡ types_in xs
  equal_rows end_of-SqlTy end_of-SqlTy h = refl
  equal_rows end_of-SqlTy (more_of-SqlTy b others) h = absurd (cc h)
  equal_rows (more_of-SqlTy a more) end_of-SqlTy h = absurd (cc h)
  equal_rows (more_of-SqlTy a more) (more_of-SqlTy b others) h =
      let first : b ≡ a = equal_types a b (first_true _ _ h) in
      let rest : types_in others ≡ types_in more = equal_rows more others (second_true (same_type a b) _ h) in
      λ i. first i ∷ rest i

-- columns with types are alike exactly where their types are the same
pub like_types : (cs ds : List Typed) → alike (sorts_of cs) (sorts_of ds) ≡ true → types_of ds ≡ types_of cs
like_types [] [] h = refl
like_types [] (x ∷ ds) h = absurd (cc h)
like_types (x ∷ cs) [] h = absurd (cc h)
like_types (x ∷ cs) (y ∷ ds) h =
    let first : y.ty ≡ x.ty = equal_types x.ty y.ty (first_true _ _ h) in
    let rest : types_of ds ≡ types_of cs = like_types cs ds (second_true (same_type x.ty y.ty) _ h) in
    λ i. first i ∷ rest i

pub types_like : (cs ds : List Typed) → types_of ds ≡ types_of cs → alike (sorts_of cs) (sorts_of ds) ≡ true
types_like [] [] h = refl
types_like [] (x ∷ ds) h = absurd (cc h)
types_like (x ∷ cs) [] h = absurd (cc h)
types_like (x ∷ cs) (y ∷ ds) h =
    let first : y.ty ≡ x.ty = cc h in
    let rest : types_of ds ≡ types_of cs = cc h in
    both_true (same_type x.ty y.ty) (alike (sorts_of cs) (sorts_of ds)) (subst (λ (t : SqlTy). same_type x.ty t ≡ true) (sym first) (same_itself x.ty)) (types_like cs ds rest)

-- ---- kinds of types

pub scalar_it_is : (s : ScalarTy) (t : SqlTy) → is_of s t ≡ true → t ≡ ty.Scalar s
scalar_it_is s (d.Scalar a) h = ap d.Scalar (equal_scalars s a h)
scalar_it_is s (d.Row' _ row) h = absurd (cc h)
scalar_it_is s (d.Array' _ row) h = absurd (cc h)

pub scalar_sound : (t : SqlTy) → is_scalar t ≡ true → IsScalar t
scalar_sound (d.Scalar s) h = (s, refl)
scalar_sound (d.Row' _ row) h = absurd (cc h)
scalar_sound (d.Array' _ row) h = absurd (cc h)

pub array_sound : (t : SqlTy) → is_array t ≡ true → (u : SqlTy) × (t ≡ ty.Array u)
array_sound (d.Scalar s) h = absurd (cc h)
array_sound (d.Row' _ row) h = absurd (cc h)
array_sound (d.Array' s (more_of-SqlTy u end_of-SqlTy)) h = (u, array_is s u)

-- ---- what is judged

-- an expression has a type, and that suits
abbrev pub IsJudged : Verdict → (SqlTy → Type 0) → Type 0
IsJudged v Suits = (t : SqlTy) × (v ≡ Has t) × Suits t

pub judged_if : (b : Bool) (t : SqlTy) (byte : ℕ) (Suits : SqlTy → Type 0) → failing (has_if b t) byte ≡ [] → (b ≡ true → Suits t) → IsJudged (has_if b t) Suits
judged_if b t byte Suits h suits = let is : b ≡ true = has_it b t byte h in (t, ap (λ x. has_if x t) is, suits is)

-- what a place takes
pub placed : (suits : SqlTy → Bool) (v : Verdict) (t : SqlTy) (byte : ℕ) → v ≡ Has t → failing (wanted suits v) byte ≡ [] → suits t ≡ true
placed suits v t byte e h = has_it (suits t) t byte (subst (λ (w : Verdict). failing (wanted suits w) byte ≡ []) e h)

pub unary_sound : (operator : UnaryOp) (a : SqlTy) (byte : ℕ) → failing (unary_verdict operator a) byte ≡ [] → IsJudged (unary_verdict operator a) (UnaryType operator a)
unary_sound unary.Neg a byte h = judged_if (is_of scalar.Int64 a) INT byte (UnaryType unary.Neg a) h (λ is. (scalar_it_is scalar.Int64 a is, refl))
unary_sound unary.Not a byte h = judged_if (is_of scalar.Bool a) BOOL byte (UnaryType unary.Not a) h (λ is. (scalar_it_is scalar.Bool a is, refl))
unary_sound unary.IsNull a byte h = (BOOL, refl, refl)
unary_sound unary.IsNotNull a byte h = (BOOL, refl, refl)

closed_sound : (s : ScalarTy) (a b : SqlTy) (byte : ℕ) → failing (closed s a b) byte ≡ [] → IsJudged (closed s a b) (Both (ty.Scalar s) (ty.Scalar s) a b)
closed_sound s a b byte h =
    judged_if (is_of s a && is_of s b) (ty.Scalar s) byte (Both (ty.Scalar s) (ty.Scalar s) a b) h
    (λ is. (scalar_it_is s a (first_true _ _ is), scalar_it_is s b (second_true (is_of s a) _ is), refl))

compared_sound : (a b : SqlTy) (byte : ℕ) → failing (compared a b) byte ≡ [] → IsJudged (compared a b) (Compared a b)
compared_sound (d.Scalar a) (d.Scalar b) byte h = judged_if (same_scalar a b) BOOL byte (Compared (d.Scalar a) (d.Scalar b)) h (λ is. ((a, refl), ap d.Scalar (equal_scalars a b is), refl))
compared_sound (d.Scalar a) (d.Row' _ row) byte h = absurd (cc h)
compared_sound (d.Scalar a) (d.Array' _ row) byte h = absurd (cc h)
compared_sound (d.Row' _ row) b byte h = absurd (cc h)
compared_sound (d.Array' _ row) b byte h = absurd (cc h)

pub binary_sound : (operator : BinaryOp) (a b : SqlTy) (byte : ℕ) → failing (binary_verdict operator a b) byte ≡ [] → IsJudged (binary_verdict operator a b) (BinaryType operator a b)
binary_sound binary.Or a b byte h = closed_sound scalar.Bool a b byte h
binary_sound binary.And a b byte h = closed_sound scalar.Bool a b byte h
binary_sound binary.Eq a b byte h = compared_sound a b byte h
binary_sound binary.Ne a b byte h = compared_sound a b byte h
binary_sound binary.Lt a b byte h = compared_sound a b byte h
binary_sound binary.Le a b byte h = compared_sound a b byte h
binary_sound binary.Gt a b byte h = compared_sound a b byte h
binary_sound binary.Ge a b byte h = compared_sound a b byte h
binary_sound binary.Add a b byte h = closed_sound scalar.Int64 a b byte h
binary_sound binary.Sub a b byte h = closed_sound scalar.Int64 a b byte h
binary_sound binary.Concat a b byte h = closed_sound scalar.Str a b byte h
binary_sound binary.Mul a b byte h = closed_sound scalar.Int64 a b byte h
binary_sound binary.FloorDiv a b byte h = closed_sound scalar.Int64 a b byte h
binary_sound binary.Mod a b byte h = closed_sound scalar.Int64 a b byte h

-- a function over an array, by its elements
over_elements : (a : SqlTy) (judge : SqlTy → Verdict) (byte : ℕ) (Suits : SqlTy → Type 0) → failing (with_element (element_of a) judge) byte ≡ []
    → ((u : SqlTy) → a ≡ ty.Array u → failing (judge u) byte ≡ [] → IsJudged (judge u) Suits) → IsJudged (with_element (element_of a) judge) Suits
unfolding element_of
over_elements (d.Scalar s) judge byte Suits h suits = absurd (cc h)
over_elements (d.Row' _ row) judge byte Suits h suits = absurd (cc h)
over_elements (d.Array' s (more_of-SqlTy u end_of-SqlTy)) judge byte Suits h suits = suits u (array_is s u) h

-- whose elements are of one scalar type
over_scalars : (s : ScalarTy) (t a : SqlTy) (byte : ℕ) → failing (with_element (element_of a) (λ u. has_if (is_of s u) t)) byte ≡ []
    → IsJudged (with_element (element_of a) (λ u. has_if (is_of s u) t)) (λ r. (a ≡ ty.Array (ty.Scalar s)) × (r ≡ t))
over_scalars s t a byte h =
    over_elements a (λ u. has_if (is_of s u) t) byte (λ r. (a ≡ ty.Array (ty.Scalar s)) × (r ≡ t)) h
    (λ u e g. judged_if (is_of s u) t byte (λ r. (a ≡ ty.Array (ty.Scalar s)) × (r ≡ t)) g (λ is. (e ∙ ap ty.Array (scalar_it_is s u is), refl)))

over_ordered : (a : SqlTy) (byte : ℕ) → failing (with_element (element_of a) (λ u. has_if (is_scalar u) u)) byte ≡ []
    → IsJudged (with_element (element_of a) (λ u. has_if (is_scalar u) u)) (λ r. IsScalar r × (a ≡ ty.Array r))
over_ordered a byte h =
    over_elements a (λ u. has_if (is_scalar u) u) byte (λ r. IsScalar r × (a ≡ ty.Array r)) h
    (λ u e g. judged_if (is_scalar u) u byte (λ r. IsScalar r × (a ≡ ty.Array r)) g (λ is. (scalar_sound u is, e)))

over_any : (t a : SqlTy) (byte : ℕ) → failing (with_element (element_of a) (λ u. Has t)) byte ≡ []
    → IsJudged (with_element (element_of a) (λ u. Has t)) (λ r. (u : SqlTy) × (a ≡ ty.Array u) × (r ≡ t))
over_any t a byte h = over_elements a (λ u. Has t) byte (λ r. (u : SqlTy) × (a ≡ ty.Array u) × (r ≡ t)) h (λ u e g. (t, refl, (u, e, refl)))

pub function_sound : (called : Function) (a : SqlTy) (byte : ℕ) → failing (function_verdict called a) byte ≡ [] → IsJudged (function_verdict called a) (FunctionType called a)
function_sound function.Len a byte h = judged_if (is_of scalar.Str a) INT byte (FunctionType function.Len a) h (λ is. (scalar_it_is scalar.Str a is, refl))
function_sound function.CountOf a byte h = over_any INT a byte h
function_sound function.SumOf a byte h = over_scalars scalar.Int64 INT a byte h
function_sound function.MinOf a byte h = over_ordered a byte h
function_sound function.MaxOf a byte h = over_ordered a byte h
function_sound function.AnyOf a byte h = over_scalars scalar.Bool BOOL a byte h
function_sound function.AllOf a byte h = over_scalars scalar.Bool BOOL a byte h
function_sound function.AssertSingle a byte h = over_any a a byte h
function_sound function.AssertExists a byte h = over_any a a byte h
function_sound function.AssertDistinct a byte h = over_any a a byte h

-- ---- casts, parts, choices and parameters

casts_sound : (from to : ScalarTy) → casts from to ≡ true → Casts from to
casts_sound scalar.Str to h = tt
casts_sound scalar.Int64 scalar.Int64 h = inl refl
casts_sound scalar.Int64 scalar.Str h = inr refl
casts_sound scalar.Int64 scalar.Bool h = absurd (cc h)
casts_sound scalar.Int64 scalar.Uuid h = absurd (cc h)
casts_sound scalar.Bool scalar.Int64 h = absurd (cc h)
casts_sound scalar.Bool scalar.Str h = inr refl
casts_sound scalar.Bool scalar.Bool h = inl refl
casts_sound scalar.Bool scalar.Uuid h = absurd (cc h)
casts_sound scalar.Uuid scalar.Int64 h = absurd (cc h)
casts_sound scalar.Uuid scalar.Str h = inr refl
casts_sound scalar.Uuid scalar.Bool h = absurd (cc h)
casts_sound scalar.Uuid scalar.Uuid h = inl refl

-- a cast between scalar types that there is
abbrev pub IsCast : SqlTy → SqlTy → SqlTy → Type 0
IsCast a u t = (from to : ScalarTy) × (a ≡ ty.Scalar from) × (u ≡ ty.Scalar to) × Casts from to × (t ≡ u)

pub cast_sound : (a u : SqlTy) (byte : ℕ) → failing (cast_verdict a u) byte ≡ [] → IsJudged (cast_verdict a u) (IsCast a u)
cast_sound (d.Scalar from) (d.Scalar to) byte h = judged_if (casts from to) (d.Scalar to) byte (IsCast (d.Scalar from) (d.Scalar to)) h (λ is. (from, to, refl, refl, casts_sound from to is, refl))
cast_sound (d.Scalar from) (d.Row' _ row) byte h = absurd (cc h)
cast_sound (d.Scalar from) (d.Array' _ row) byte h = absurd (cc h)
cast_sound (d.Row' _ row) u byte h = absurd (cc h)
cast_sound (d.Array' _ row) u byte h = absurd (cc h)

-- a part that a row has
abbrev pub IsPart : SqlTy → ℤ → SqlTy → Type 0
IsPart a z t = (ts : List SqlTy) × (n : ℕ) × (a ≡ ty.Row ts) × (z ≡ pos (suc n)) × (slice_get ts n ≡ Some t)

type_in_row : {m : Count} (row : Row_of-SqlTy m) (n : ℕ) → type_at row n ≡ slice_get (types_in row) n
unfolding type_at
type_in_row end_of-SqlTy n = refl
type_in_row (more_of-SqlTy t more) zero = refl
type_in_row (more_of-SqlTy t more) (suc n) = type_in_row more n

some_judged : (o : Option SqlTy) (byte : ℕ) (Suits : SqlTy → Type 0) → failing (has_some o) byte ≡ [] → ((t : SqlTy) → o ≡ Some t → Suits t) → IsJudged (has_some o) Suits
some_judged None byte Suits h suits = absurd (cc h)
some_judged (Some t) byte Suits h suits = (t, refl, suits t refl)

pub part_sound : (a : SqlTy) (z : ℤ) (byte : ℕ) → failing (part_verdict a z) byte ≡ [] → IsJudged (part_verdict a z) (IsPart a z)
unfolding part_verdict
part_sound (d.Scalar s) z byte h = absurd (cc h)
part_sound (d.Row' s row) (pos zero) byte h = absurd (cc h)
part_sound (d.Row' s row) (pos (suc n)) byte h =
    some_judged (type_at row n) byte (IsPart (d.Row' s row) (pos (suc n))) h (λ t e. (types_in row, n, row_is s row, refl, sym (type_in_row row n) ∙ e))
part_sound (d.Row' s row) (negsuc n) byte h = absurd (cc h)
part_sound (d.Array' _ row) z byte h = absurd (cc h)

pub case_sound : (a b : SqlTy) (byte : ℕ) → failing (case_verdict a b) byte ≡ [] → IsJudged (case_verdict a b) (λ t. (t ≡ a) × (b ≡ a))
case_sound a b byte h = judged_if (same_type a b) a byte (λ t. (t ≡ a) × (b ≡ a)) h (λ is. (refl, equal_types a b is))

pub arg_sound : (u : SqlTy) (o : Option SqlTy) (byte : ℕ) → failing (arg_verdict u o) byte ≡ [] → IsJudged (arg_verdict u o) (λ t. (s : ScalarTy) × (u ≡ ty.Scalar s) × (t ≡ u) × (o ≡ Some u))
arg_sound (d.Scalar s) None byte h = absurd (cc h)
arg_sound (d.Scalar s) (Some first) byte h =
    judged_if (is_of s first) (d.Scalar s) byte (λ t. (r : ScalarTy) × (d.Scalar s ≡ ty.Scalar r) × (t ≡ d.Scalar s) × (Some first ≡ Some (d.Scalar s))) h
    (λ is. (s, refl, refl, ap (λ (u : SqlTy). Some u) (scalar_it_is s first is)))
arg_sound (d.Row' _ row) o byte h = absurd (cc h)
arg_sound (d.Array' _ row) o byte h = absurd (cc h)
