-- What is said of a form by what is said of its parts; and the same of lists of forms, and of optional ones.
use Rattle.std.specs.Prelude.{ℕ, zero, suc, ℤ, pos, negsuc, Bool, slice_get, List, [], ◌∷◌, ◌++◌, drop, length, Option, Some, None, if◌then◌else◌}
use denote.Ref.{Bor}
use Rattle.std.specs.Str.{bytes_eq}
use Rattle.ev_value.specs.declared.value.ScalarTy.{ScalarTy}
use Rattle.ev_value.specs.declared.value.ScalarTy.TheVariants as scalar
use Rattle.sql_ast.specs.declared.catalog.Catalog.{Catalog}
use Rattle.sql_ast.specs.declared.catalog.Typed.{Typed}
use Rattle.sql_ast.specs.declared.expression.BinaryOp.{BinaryOp}
use Rattle.sql_ast.specs.declared.expression.Case.{Case}
use Rattle.sql_ast.specs.declared.expression.Function.{Function}
use Rattle.sql_ast.specs.declared.expression.Function.TheVariants as function
use Rattle.sql_ast.specs.declared.expression.SqlExpr.{SqlExpr}
use Rattle.sql_ast.specs.declared.expression.UnaryOp.{UnaryOp}
use Rattle.sql_ast.specs.declared.select.Body.{Body}
use Rattle.sql_ast.specs.declared.select.Column.{Column}
use Rattle.sql_ast.specs.declared.select.Core.{Core}
use Rattle.sql_ast.specs.declared.select.FromItem.{FromItem}
use Rattle.sql_ast.specs.declared.select.Key.{Key}
use Rattle.sql_ast.specs.declared.ty.SqlTy.{SqlTy}
use Rattle.sql_ast.specs.Types.{INT, BOOL}
use Rattle.sql_ast.specs.WellFormed.{Name, alias_of}
use Rattle.sql_grammar.specs.declared.grown.Places.{Places}
use Rattle.sql_check.specs.declared.sort.Known.{Known}
use Rattle.sql_check.specs.declared.sort.Sort.{Sort}
use Rattle.sql_check.specs.declared.judge.Place.{Place}
use Rattle.sql_check.specs.declared.judge.Place.TheVariants as place
use Rattle.sql_check.specs.declared.verdict.Verdict.{Verdict}
use Rattle.sql_check.specs.declared.verdict.Verdict.TheVariants.{Has, Fails}
use Rattle.sql_check.specs.NameLists.{beyond_option}
use Rattle.sql_check.specs.Types.{Sorts, over, has_if, same_scalar, wanted, failing, is_of, is_scalar, is_array, type_in, with_first, sort_under, column_type, unary_verdict, binary_verdict, cast_verdict, part_verdict, choice_verdict, function_verdict, verdict, core_sorts, item_sorts, types_in, types_in_item, types_in_key}
use Rattle.sql_check.specs.Walk.{start, inner, rest}

-- ---- forms

-- what suits a place
abbrev pub takes : Place → SqlTy → Bool
takes (place.Of s) t = is_of s t
takes place.Scalar t = is_scalar t
takes place.Array t = is_array t

-- a condition is a truth, and a bound a number
abbrev pub truth : Place
truth = place.Of scalar.Bool

abbrev pub number : Place
number = place.Of scalar.Int64

unfoldable pub of_unary : UnaryOp → Verdict → Verdict
of_unary operator v = over v (λ a. unary_verdict operator a)

unfoldable pub of_binary : BinaryOp → Verdict → Verdict → Verdict
of_binary operator v w = over v (λ a. over w (λ b. binary_verdict operator a b))

unfoldable pub of_cast : Verdict → SqlTy → Verdict
of_cast v t = over v (λ a. cast_verdict a t)

unfoldable pub of_part : Verdict → ℤ → Verdict
of_part v z = over v (λ a. part_verdict a z)

unfoldable pub of_call : Function → Verdict → Verdict
of_call called v = over v (λ a. function_verdict called a)

-- what is said of an expression in a place that takes some types
unfoldable pub of_place : Place → Verdict → Verdict
of_place p v = wanted (λ t. takes p t) v

unfoldable pub of_case : Verdict → Verdict → Verdict → Verdict
of_case condition v w = choice_verdict condition v w

-- a function over a scalar, and over an array with these elements
abbrev pub scalar_verdict : Function → ScalarTy → Verdict
scalar_verdict function.Len s = has_if (same_scalar scalar.Str s) INT
scalar_verdict _ s = Fails

abbrev pub elements_verdict : Function → SqlTy → SqlTy → Verdict
elements_verdict function.Len a u = Fails
elements_verdict function.CountOf a u = Has INT
elements_verdict function.SumOf a u = has_if (is_of scalar.Int64 u) INT
elements_verdict function.MinOf a u = has_if (is_scalar u) u
elements_verdict function.MaxOf a u = has_if (is_scalar u) u
elements_verdict function.AnyOf a u = has_if (is_of scalar.Bool u) BOOL
elements_verdict function.AllOf a u = has_if (is_of scalar.Bool u) BOOL
elements_verdict function.AssertSingle a u = Has a
elements_verdict function.AssertExists a u = Has a
elements_verdict function.AssertDistinct a u = Has a

-- how many parts stand before a part, where there can be such a part
abbrev pub place_of : ℤ → Option ℕ
place_of (pos zero) = None
place_of (pos (suc n)) = Some n
place_of (negsuc n) = None

abbrev pub part_of : List SqlTy → Option ℕ → Option SqlTy
part_of ts None = None
part_of ts (Some n) = slice_get ts n

-- ---- scopes

-- the newest entry under an alias, or else this one
abbrev pub newest_known : Name → List Known → Option Known → Option Known
newest_known alias [] found = found
newest_known alias (k ∷ more) found = newest_known alias more (if bytes_eq k.alias alias then Some k else found)

-- the type of a column of the entry, or else of the scope
abbrev pub column_type_of : Name → Name → Option Known → Sorts → Option SqlTy
column_type_of alias name None d = column_type alias name d
column_type_of alias name (Some k) d = sort_under name k.columns

abbrev pub known_now : Option (Bor Known) → Option Known
known_now None = None
known_now (Some k) = Some k.now

abbrev pub ty_now : Option (Bor SqlTy) → Option SqlTy
ty_now None = None
ty_now (Some t) = Some t.now

-- a column with a name, and a type where there is one; a column of a table has one
abbrev pub named : Name → Option SqlTy → Sort
named name t = record { name = name; ty = t }

abbrev pub sort_of : Typed → Sort
sort_of column = named column.name (Some column.ty)

-- types with more behind them, where there are more
abbrev pub behind_types : List SqlTy → Option (List SqlTy) → Option (List SqlTy)
behind_types ts None = None
behind_types ts (Some more) = Some (ts ++ more)

-- ---- lists and optional forms

module _ (catalog : Catalog) (params : List Typed) where
  abbrev pub verdicts_of : List SqlExpr → Sorts → Option (List SqlTy)
  verdicts_of [] d = Some []
  verdicts_of (first ∷ more) d = with_first (type_in (verdict catalog params first d)) (verdicts_of more d)

  -- of the first of some cores
  abbrev pub sorts_of_cores : List Core → Sorts → List Sort
  sorts_of_cores [] d = []
  sorts_of_cores (core ∷ more) d = core_sorts catalog params core d

  abbrev pub column_of : Column → Sorts → Sort
  column_of first d = named first.name (type_in (verdict catalog params first.value d))

  abbrev pub sorts_of_columns : List Column → Sorts → List Sort
  sorts_of_columns [] d = []
  sorts_of_columns (first ∷ more) d = column_of first d ∷ sorts_of_columns more d

  abbrev pub known_of : FromItem → Sorts → Known
  known_of first d = record { alias = alias_of first; columns = item_sorts catalog params first d }

  abbrev pub within_items : List FromItem → Sorts → Sorts
  within_items [] d = d
  within_items (first ∷ more) d = within_items more (known_of first d ∷ d)

  abbrev pub types_in_exprs : List SqlExpr → List Places → Sorts → List ℕ
  types_in_exprs [] ps d = []
  types_in_exprs (first ∷ more) ps d = types_in catalog params first ps d ++ types_in_exprs more (rest ps) d

  abbrev pub types_in_column : Column → List Places → Sorts → List ℕ
  types_in_column first ps d = types_in catalog params first.value (inner ps) d

  abbrev pub types_in_column_list : List Column → List Places → Sorts → List ℕ
  types_in_column_list [] ps d = []
  types_in_column_list (first ∷ more) ps d = types_in_column first ps d ++ types_in_column_list more (rest ps) d

  abbrev pub types_in_item_list : List FromItem → List Places → Sorts → List ℕ
  types_in_item_list [] ps d = []
  types_in_item_list (first ∷ more) ps d = types_in_item catalog params first ps d ++ types_in_item_list more (rest ps) (known_of first d ∷ d)

  abbrev pub types_in_key_list : List Key → List Places → Sorts → List ℕ
  types_in_key_list [] ps d = []
  types_in_key_list (first ∷ more) ps d = types_in_key catalog params first ps d ++ types_in_key_list more (rest ps) d

  -- of an expression in a place that takes some types
  abbrev pub types_in_place : Place → SqlExpr → List Places → Sorts → List ℕ
  types_in_place p x ps d = types_in catalog params x ps d ++ failing (of_place p (verdict catalog params x d)) (start ps)

  abbrev pub types_in_held : Option SqlExpr → Place → List Places → Sorts → List ℕ
  types_in_held None p ps d = []
  types_in_held (Some x) p ps d = types_in_place p x ps d

  -- of OFFSET and LIMIT
  abbrev pub types_in_bounds : Body → List Places → Sorts → List ℕ
  types_in_bounds body ps d =
      types_in_held body.offset number ps d ++ types_in_held body.limit number (beyond_option body.offset ps) d

  -- of the keys, in the scope inside, and what stands behind them
  abbrev pub types_in_order : Body → List Places → Sorts → Sorts → List ℕ
  types_in_order body ps within d = types_in_key_list body.keys ps within ++ types_in_bounds body (drop (length body.keys) ps) d

  -- of the condition, and what stands behind it
  abbrev pub types_in_rows : Body → List Places → Sorts → Sorts → List ℕ
  types_in_rows body ps within d = types_in_held body.condition truth ps within ++ types_in_order body (beyond_option body.condition ps) within d

  -- of a core with these columns and what stands behind them, whose places begin with those of the columns
  abbrev pub types_in_parts : List Column → Body → List Places → Sorts → List ℕ
  types_in_parts columns body ps d =
      types_in_item_list body.from (drop (length columns) ps) d ++
      (types_in_column_list columns ps (within_items body.from d) ++
      types_in_rows body (drop (length body.from) (drop (length columns) ps)) (within_items body.from d) d)

  -- of a choice, which is judged after its parts
  abbrev pub types_in_case : Case → SqlExpr → List Places → Sorts → List ℕ
  types_in_case form whole ps d =
      types_in_place truth form.condition (inner ps) d ++
      (types_in catalog params form.value (rest (inner ps)) d ++
      (types_in catalog params form.other (rest (rest (inner ps))) d ++
      failing (verdict catalog params whole d) (start ps)))
