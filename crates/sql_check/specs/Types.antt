-- The types that the expressions of a statement have, and those that fail by their types, each with its byte.
use Rattle.std.specs.Prelude.{ℕ, zero, suc, ℤ, pos, Bool, true, false, ◌&&◌, ◌||◌, List, [], ◌∷◌, ◌++◌, codes, map, Option, Some, None, if◌then◌else◌}
use Rattle.std.specs.Str.{bytes_eq}
use Rattle.ev_value.specs.declared.value.ScalarTy.{ScalarTy}
use Rattle.ev_value.specs.declared.value.ScalarTy.TheVariants as scalar
use Rattle.sql_ast.specs.declared.catalog.Catalog.{Catalog}
use Rattle.sql_ast.specs.declared.catalog.Typed.{Typed}
use Rattle.sql_ast.specs.declared.expression.BinaryOp.{BinaryOp}
use Rattle.sql_ast.specs.declared.expression.BinaryOp.TheVariants as binary
use Rattle.sql_ast.specs.declared.expression.Function.{Function}
use Rattle.sql_ast.specs.declared.expression.Function.TheVariants as function
use Rattle.sql_ast.specs.declared.expression.SqlExpr as e
use Rattle.sql_ast.specs.declared.expression.SqlExpr.{SqlExpr, Row_of-SqlExpr, end_of-SqlExpr, more_of-SqlExpr, Row_of-Core, end_of-Core, more_of-Core}
use Rattle.sql_ast.specs.declared.expression.UnaryOp.{UnaryOp}
use Rattle.sql_ast.specs.declared.expression.UnaryOp.TheVariants as unary
use Rattle.sql_ast.specs.declared.select.Core as c
use Rattle.sql_ast.specs.declared.select.Core.{Core, Row_of-Column, end_of-Column, more_of-Column, Row_of-FromItem, end_of-FromItem, more_of-FromItem, Row_of-Key, end_of-Key, more_of-Key, Held-Body-condition, None', Some'}
use Rattle.sql_ast.specs.declared.select.FromItem as f
use Rattle.sql_ast.specs.declared.select.FromItem.{FromItem}
use Rattle.sql_ast.specs.declared.select.Key as k
use Rattle.sql_ast.specs.declared.select.Key.{Key}
use Rattle.sql_ast.specs.declared.select.Stmt.{Stmt}
use Rattle.sql_ast.specs.declared.ty.SqlTy as ty
use Rattle.sql_ast.specs.declared.ty.SqlTy.{SqlTy, Row_of-SqlTy, end_of-SqlTy, more_of-SqlTy}
use Rattle.sql_ast.specs.Params.{args_of}
use Rattle.sql_ast.specs.Types.{INT, TEXT, BOOL, UUID}
use Rattle.sql_ast.specs.WellFormed.{Name, alias_of, columns_under, type_under}
use Rattle.sql_grammar.specs.declared.grown.Places.{Places}
use Rattle.sql_check.specs.declared.sort.Known.{Known}
use Rattle.sql_check.specs.declared.sort.Sort.{Sort}
use Rattle.sql_check.specs.declared.verdict.Verdict.{Verdict}
use Rattle.sql_check.specs.declared.verdict.Verdict.TheVariants.{Has, Fails, Unjudged}
use Rattle.sql_check.specs.Names.{at_items, at_condition, at_keys, at_offset, at_limit}
use Rattle.sql_check.specs.Walk.{start, inner, rest, parts_of}

-- ---- verdicts

-- the type, where there is one
abbrev pub type_in : Verdict → Option SqlTy
type_in (Has t) = Some t
type_in Fails = None
type_in Unjudged = None

-- what is not known is not judged
abbrev pub known : Option SqlTy → Verdict
known None = Unjudged
known (Some t) = Has t

-- An expression over one part: it is judged where that has a type.
abbrev pub over : Verdict → (SqlTy → Verdict) → Verdict
over (Has t) judge = judge t
over Fails judge = Unjudged
over Unjudged judge = Unjudged

abbrev pub has_if : Bool → SqlTy → Verdict
has_if true t = Has t
has_if false t = Fails

abbrev pub has_some : Option SqlTy → Verdict
has_some None = Fails
has_some (Some t) = Has t

-- the byte of what fails
abbrev pub failing : Verdict → ℕ → List ℕ
failing (Has t) byte = []
failing Fails byte = byte ∷ []
failing Unjudged byte = []

-- ---- equal types

abbrev pub same_scalar : ScalarTy → ScalarTy → Bool
same_scalar scalar.Int64 scalar.Int64 = true
same_scalar scalar.Str scalar.Str = true
same_scalar scalar.Bool scalar.Bool = true
same_scalar scalar.Uuid scalar.Uuid = true
same_scalar _ _ = false

unfoldable mutual
  pub same_type : SqlTy → SqlTy → Bool
  same_type (ty.Scalar a) (ty.Scalar b) = same_scalar a b
  same_type (ty.Row' _ parts) (ty.Row' _ others) = same_types parts others
  same_type (ty.Array' _ (more_of-SqlTy a end_of-SqlTy)) (ty.Array' _ (more_of-SqlTy b end_of-SqlTy)) = same_type a b
  same_type _ _ = false

  pub same_types : {m n : _} → Row_of-SqlTy m → Row_of-SqlTy n → Bool
  same_types end_of-SqlTy end_of-SqlTy = true
  same_types (more_of-SqlTy a more) (more_of-SqlTy b others) = same_type a b && same_types more others
  same_types _ _ = false

abbrev pub all_same : List SqlTy → List SqlTy → Bool
all_same [] [] = true
all_same (a ∷ more) (b ∷ others) = same_type a b && all_same more others
all_same _ _ = false

-- ---- the tables of types

-- the type is this scalar type
abbrev pub is_of : ScalarTy → SqlTy → Bool
is_of s (ty.Scalar a) = same_scalar s a
is_of s _ = false

abbrev pub is_scalar : SqlTy → Bool
is_scalar (ty.Scalar _) = true
is_scalar _ = false

abbrev pub unary_verdict : UnaryOp → SqlTy → Verdict
unary_verdict unary.Neg a = has_if (is_of scalar.Int64 a) INT
unary_verdict unary.Not a = has_if (is_of scalar.Bool a) BOOL
unary_verdict unary.IsNull a = Has BOOL
unary_verdict unary.IsNotNull a = Has BOOL

-- both operands are of one scalar type, and so is the result
abbrev pub closed : ScalarTy → SqlTy → SqlTy → Verdict
closed s a b = has_if (is_of s a && is_of s b) (ty.Scalar s)

-- a comparison has two operands of one scalar type
abbrev pub compared : SqlTy → SqlTy → Verdict
compared (ty.Scalar a) (ty.Scalar b) = has_if (same_scalar a b) BOOL
compared _ _ = Fails

abbrev pub binary_verdict : BinaryOp → SqlTy → SqlTy → Verdict
binary_verdict binary.Or a b = closed scalar.Bool a b
binary_verdict binary.And a b = closed scalar.Bool a b
binary_verdict binary.Eq a b = compared a b
binary_verdict binary.Ne a b = compared a b
binary_verdict binary.Lt a b = compared a b
binary_verdict binary.Le a b = compared a b
binary_verdict binary.Gt a b = compared a b
binary_verdict binary.Ge a b = compared a b
binary_verdict binary.Add a b = closed scalar.Int64 a b
binary_verdict binary.Sub a b = closed scalar.Int64 a b
binary_verdict binary.Concat a b = closed scalar.Str a b
binary_verdict binary.Mul a b = closed scalar.Int64 a b
binary_verdict binary.FloorDiv a b = closed scalar.Int64 a b
binary_verdict binary.Mod a b = closed scalar.Int64 a b

-- the type of the elements, where the type is an array
unfoldable pub element_of : SqlTy → Option SqlTy
element_of (ty.Array' _ (more_of-SqlTy element end_of-SqlTy)) = Some element
element_of (ty.Scalar _) = None
element_of (ty.Row' _ _) = None

abbrev pub with_element : Option SqlTy → (SqlTy → Verdict) → Verdict
with_element None judge = Fails
with_element (Some t) judge = judge t

-- LEN takes a text, the other functions an array whose elements suit
abbrev pub function_verdict : Function → SqlTy → Verdict
function_verdict function.Len a = has_if (is_of scalar.Str a) INT
function_verdict function.CountOf a = with_element (element_of a) (λ u. Has INT)
function_verdict function.SumOf a = with_element (element_of a) (λ u. has_if (is_of scalar.Int64 u) INT)
function_verdict function.MinOf a = with_element (element_of a) (λ u. has_if (is_scalar u) u)
function_verdict function.MaxOf a = with_element (element_of a) (λ u. has_if (is_scalar u) u)
function_verdict function.AnyOf a = with_element (element_of a) (λ u. has_if (is_of scalar.Bool u) BOOL)
function_verdict function.AllOf a = with_element (element_of a) (λ u. has_if (is_of scalar.Bool u) BOOL)
function_verdict function.AssertSingle a = with_element (element_of a) (λ u. Has a)
function_verdict function.AssertExists a = with_element (element_of a) (λ u. Has a)
function_verdict function.AssertDistinct a = with_element (element_of a) (λ u. Has a)

-- a cast from a type to itself, to a text, or from a text
abbrev pub casts : ScalarTy → ScalarTy → Bool
casts from to = same_scalar from to || (same_scalar from scalar.Str || same_scalar to scalar.Str)

abbrev pub cast_verdict : SqlTy → SqlTy → Verdict
cast_verdict (ty.Scalar from) (ty.Scalar to) = has_if (casts from to) (ty.Scalar to)
cast_verdict _ _ = Fails

unfoldable pub type_at : {m : _} → Row_of-SqlTy m → ℕ → Option SqlTy
type_at end_of-SqlTy n = None
type_at (more_of-SqlTy t more) zero = Some t
type_at (more_of-SqlTy t more) (suc n) = type_at more n

-- a part of a row; parts count from 1
unfoldable pub part_verdict : SqlTy → ℤ → Verdict
part_verdict (ty.Row' _ parts) (pos (suc n)) = has_some (type_at parts n)
part_verdict _ _ = Fails

-- a choice has branches of equal types
abbrev pub case_verdict : SqlTy → SqlTy → Verdict
case_verdict a b = has_if (same_type a b) a

-- what fails fails; else nothing is said
abbrev pub untyped : Verdict → Verdict
untyped (Has t) = Unjudged
untyped Fails = Fails
untyped Unjudged = Unjudged

-- A choice by a condition of this type: where that is no truth, the branches are compared all the same, and the choice has no type.
abbrev pub chosen_by : SqlTy → Verdict → Verdict
chosen_by condition branches = if is_of scalar.Bool condition then branches else untyped branches

abbrev pub choice_verdict : Verdict → Verdict → Verdict → Verdict
choice_verdict condition value other = over condition (λ c. chosen_by c (over value (λ a. over other (λ b. case_verdict a b))))

-- An ARG has a scalar type, and that of the first ARG of its name, whatever the type of that one is.
abbrev pub arg_verdict : SqlTy → Option SqlTy → Verdict
arg_verdict (ty.Scalar s) (Some first) = has_if (is_of s first) (ty.Scalar s)
arg_verdict _ _ = Fails

-- What is told at the expression itself where it has a type that its place does not take.
abbrev pub wanted : (SqlTy → Bool) → Verdict → Verdict
wanted suits (Has t) = has_if (suits t) t
wanted suits Fails = Unjudged
wanted suits Unjudged = Unjudged

abbrev pub is_array : SqlTy → Bool
is_array (ty.Array' _ _) = true
is_array _ = false

-- ---- columns and scopes

-- the aliases in scope with the columns under each, the newest first
abbrev pub Sorts : Type 0
Sorts = List Known

-- a column of a table has a type
abbrev pub sorts_of : List Typed → List Sort
sorts_of columns = map (λ c. record { name = c.name; ty = Some c.ty }) columns

abbrev pub table_sorts : Option (List Typed) → List Sort
table_sorts None = []
table_sorts (Some columns) = sorts_of columns

-- the type of the first column with a name, where there is one and it has a type
abbrev pub sort_under : Name → List Sort → Option SqlTy
sort_under name [] = None
sort_under name (x ∷ more) = if bytes_eq x.name name then x.ty else sort_under name more

-- the type of a column of the newest alias
abbrev pub column_type : Name → Name → Sorts → Option SqlTy
column_type alias name [] = None
column_type alias name (k ∷ more) = if bytes_eq k.alias alias then sort_under name k.columns else column_type alias name more

-- types with one more in front, where each is there
abbrev pub with_first : Option SqlTy → Option (List SqlTy) → Option (List SqlTy)
with_first (Some t) (Some ts) = Some (t ∷ ts)
with_first _ _ = None

-- the array of elements of a type, where that is known
abbrev pub array_of : Option SqlTy → Verdict
array_of None = Unjudged
array_of (Some t) = Has (ty.Array t)

-- the array of a select is judged by the columns of its first core: there is one, whether or not it has a type
abbrev pub array_verdict : List Sort → Verdict
array_verdict (x ∷ []) = array_of x.ty
array_verdict _ = Fails

abbrev pub row_verdict : Option (List SqlTy) → Verdict
row_verdict None = Unjudged
row_verdict (Some ts) = Has (ty.Row ts)

-- two columns agree where their types are the same, or one of them is not known
abbrev pub agree : Option SqlTy → Option SqlTy → Bool
agree (Some a) (Some b) = same_type a b
agree _ _ = true

-- a core is like the first where it has as many columns, and they agree place by place
abbrev pub alike : List Sort → List Sort → Bool
alike [] [] = true
alike (x ∷ more) (y ∷ others) = agree x.ty y.ty && alike more others
alike _ _ = false

abbrev pub element_sort : Option SqlTy → List Sort
element_sort t = record { name = codes "c1"; ty = t } ∷ []

abbrev pub element_in : Option SqlTy → Option SqlTy
element_in None = None
element_in (Some t) = element_of t

abbrev pub unless_alike : Bool → ℕ → List ℕ
unless_alike true byte = []
unless_alike false byte = byte ∷ []

-- ---- the verdict of each form

-- the statement's ARGs are given in the order of the text: the first with a name says its type
module _ (catalog : Catalog) (params : List Typed) where
  unfoldable mutual
    pub verdict : SqlExpr → Sorts → Verdict
    verdict (e.Int _) d = Has INT
    verdict (e.Text _) d = Has TEXT
    verdict (e.Bool _) d = Has BOOL
    verdict (e.Uuid _) d = Has UUID
    verdict (e.Null t) d = Has t
    verdict (e.Column alias name) d = known (column_type alias name d)
    verdict (e.Arg name t) d = arg_verdict t (type_under name params)
    verdict (e.Global name) d = known (type_under name catalog.globals)
    verdict (e.Array' _ cores) d = array_verdict (select_sorts cores d)
    verdict (e.Row' _ parts) d = row_verdict (verdicts parts d)
    verdict (e.Part' _ (more_of-SqlExpr row end_of-SqlExpr) z) d = over (verdict row d) (λ a. part_verdict a z)
    verdict (e.Case' _ (more_of-SqlExpr condition end_of-SqlExpr) _ (more_of-SqlExpr value end_of-SqlExpr) _ (more_of-SqlExpr other end_of-SqlExpr)) d =
        choice_verdict (verdict condition d) (verdict value d) (verdict other d)
    verdict (e.Cast' _ (more_of-SqlExpr operand end_of-SqlExpr) t) d = over (verdict operand d) (λ a. cast_verdict a t)
    verdict (e.Unary' operator _ (more_of-SqlExpr operand end_of-SqlExpr)) d = over (verdict operand d) (λ a. unary_verdict operator a)
    verdict (e.Binary' operator _ (more_of-SqlExpr left end_of-SqlExpr) _ (more_of-SqlExpr right end_of-SqlExpr)) d =
        over (verdict left d) (λ a. over (verdict right d) (λ b. binary_verdict operator a b))
    verdict (e.Call' called _ (more_of-SqlExpr operand end_of-SqlExpr)) d = over (verdict operand d) (λ a. function_verdict called a)

    -- the types of expressions, where each has one
    pub verdicts : {m : _} → Row_of-SqlExpr m → Sorts → Option (List SqlTy)
    verdicts end_of-SqlExpr d = Some []
    verdicts (more_of-SqlExpr first more) d = with_first (type_in (verdict first d)) (verdicts more d)

    -- the columns of a select are those of its first core
    pub select_sorts : {m : _} → Row_of-Core m → Sorts → List Sort
    select_sorts end_of-Core d = []
    select_sorts (more_of-Core core more) d = core_sorts core d

    pub core_sorts : Core → Sorts → List Sort
    core_sorts (c.All' _ columns _ items _ _ _ _ _) d = column_sorts columns (within items d)
    core_sorts (c.Distinct' _ columns _ items _ _ _ _ _) d = column_sorts columns (within items d)

    pub column_sorts : {m : _} → Row_of-Column m → Sorts → List Sort
    column_sorts end_of-Column d = []
    column_sorts (more_of-Column value name more) d = record { name = name; ty = type_in (verdict value d) } ∷ column_sorts more d

    -- the scope inside a core: each item sees those before it
    pub within : {m : _} → Row_of-FromItem m → Sorts → Sorts
    within end_of-FromItem d = d
    within (more_of-FromItem first more) d = within more (record { alias = alias_of first; columns = item_sorts first d } ∷ d)

    pub item_sorts : FromItem → Sorts → List Sort
    item_sorts (f.Table name _) d = table_sorts (columns_under name catalog.tables)
    item_sorts (f.Lateral' _ cores _) d = select_sorts cores d
    item_sorts (f.LeftLateral' _ cores _) d = select_sorts cores d
    item_sorts (f.Unnest array _) d = element_sort (element_in (type_in (verdict array d)))

  -- ---- what fails

  unfoldable mutual
    -- In each, the places are those of what is looked at, and the scope is the one that it stands in.
    pub types_in : SqlExpr → List Places → Sorts → List ℕ
    types_in (e.Int z) ps d = []
    types_in (e.Text s) ps d = []
    types_in (e.Bool b) ps d = []
    types_in (e.Uuid n) ps d = []
    types_in (e.Null t) ps d = []
    types_in (e.Column alias name) ps d = []
    types_in (e.Arg name t) ps d = failing (arg_verdict t (type_under name params)) (start ps)
    types_in (e.Global name) ps d = []
    types_in (e.Array' _ cores) ps d = types_in_cores cores (inner (inner ps)) d ++ failing (array_verdict (select_sorts cores d)) (start ps)
    types_in (e.Row' _ parts) ps d = types_in_all parts (inner ps) d
    types_in (e.Part' _ (more_of-SqlExpr row end_of-SqlExpr) z) ps d = types_in row (inner ps) d ++ failing (over (verdict row d) (λ a. part_verdict a z)) (start ps)
    types_in (e.Case' _ (more_of-SqlExpr condition end_of-SqlExpr) _ (more_of-SqlExpr value end_of-SqlExpr) _ (more_of-SqlExpr other end_of-SqlExpr)) ps d =
        (types_in condition (inner ps) d ++ failing (wanted (is_of scalar.Bool) (verdict condition d)) (start (inner ps))) ++
        (types_in value (rest (inner ps)) d ++
        (types_in other (rest (rest (inner ps))) d ++
        failing (choice_verdict (verdict condition d) (verdict value d) (verdict other d)) (start ps)))
    types_in (e.Cast' _ (more_of-SqlExpr operand end_of-SqlExpr) t) ps d = types_in operand (inner ps) d ++ failing (over (verdict operand d) (λ a. cast_verdict a t)) (start ps)
    types_in (e.Unary' operator _ (more_of-SqlExpr operand end_of-SqlExpr)) ps d = types_in operand (inner ps) d ++ failing (over (verdict operand d) (λ a. unary_verdict operator a)) (start ps)
    types_in (e.Binary' operator _ (more_of-SqlExpr left end_of-SqlExpr) _ (more_of-SqlExpr right end_of-SqlExpr)) ps d =
        types_in left (inner ps) d ++ (types_in right (rest (inner ps)) d ++ failing (over (verdict left d) (λ a. over (verdict right d) (λ b. binary_verdict operator a b))) (start ps))
    types_in (e.Call' called _ (more_of-SqlExpr operand end_of-SqlExpr)) ps d = types_in operand (inner ps) d ++ failing (over (verdict operand d) (λ a. function_verdict called a)) (start ps)

    pub types_in_all : {m : _} → Row_of-SqlExpr m → List Places → Sorts → List ℕ
    types_in_all end_of-SqlExpr ps d = []
    types_in_all (more_of-SqlExpr first more) ps d = types_in first ps d ++ types_in_all more (rest ps) d

    pub types_in_cores : {m : _} → Row_of-Core m → List Places → Sorts → List ℕ
    types_in_cores end_of-Core ps d = []
    types_in_cores (more_of-Core core more) ps d = types_in_core core ps d ++ types_in_further more (core_sorts core d) (rest ps) d

    -- each further core is like the first
    pub types_in_further : {m : _} → Row_of-Core m → List Sort → List Places → Sorts → List ℕ
    types_in_further end_of-Core first ps d = []
    types_in_further (more_of-Core core more) first ps d =
        types_in_core core ps d ++ (unless_alike (alike first (core_sorts core d)) (start ps) ++ types_in_further more first (rest ps) d)

    -- the items first, since the columns see what they give; the least byte is told, so the order tells nothing
    pub types_in_core : Core → List Places → Sorts → List ℕ
    types_in_core (c.All' _ columns _ items condition _ keys offset limit) ps d =
        types_in_items items (at_items columns ps) d ++
        (types_in_columns columns (inner ps) (within items d) ++
        (types_in_option condition (is_of scalar.Bool) (at_condition columns items ps) (within items d) ++
        (types_in_keys keys (at_keys columns items condition ps) (within items d) ++
        (types_in_option offset (is_of scalar.Int64) (at_offset columns items condition keys ps) d ++
        types_in_option limit (is_of scalar.Int64) (at_limit columns items condition keys offset ps) d))))
    types_in_core (c.Distinct' _ columns _ items condition _ keys offset limit) ps d =
        types_in_items items (at_items columns ps) d ++
        (types_in_columns columns (inner ps) (within items d) ++
        (types_in_option condition (is_of scalar.Bool) (at_condition columns items ps) (within items d) ++
        (types_in_keys keys (at_keys columns items condition ps) (within items d) ++
        (types_in_option offset (is_of scalar.Int64) (at_offset columns items condition keys ps) d ++
        types_in_option limit (is_of scalar.Int64) (at_limit columns items condition keys offset ps) d))))

    pub types_in_columns : {m : _} → Row_of-Column m → List Places → Sorts → List ℕ
    types_in_columns end_of-Column ps d = []
    types_in_columns (more_of-Column value name more) ps d = types_in value (inner ps) d ++ types_in_columns more (rest ps) d

    pub types_in_items : {m : _} → Row_of-FromItem m → List Places → Sorts → List ℕ
    types_in_items end_of-FromItem ps d = []
    types_in_items (more_of-FromItem first more) ps d =
        types_in_item first ps d ++ types_in_items more (rest ps) (record { alias = alias_of first; columns = item_sorts first d } ∷ d)

    -- UNNEST takes an array, and what is none is told at itself
    pub types_in_item : FromItem → List Places → Sorts → List ℕ
    types_in_item (f.Table name _) ps d = []
    types_in_item (f.Lateral' _ cores _) ps d = types_in_cores cores (inner (inner ps)) d
    types_in_item (f.LeftLateral' _ cores _) ps d = types_in_cores cores (inner (inner ps)) d
    types_in_item (f.Unnest array _) ps d = types_in array (inner ps) d ++ failing (wanted is_array (verdict array d)) (start (inner ps))

    pub types_in_keys : {m : _} → Row_of-Key m → List Places → Sorts → List ℕ
    types_in_keys end_of-Key ps d = []
    types_in_keys (more_of-Key first more) ps d = types_in_key first ps d ++ types_in_keys more (rest ps) d

    pub types_in_key : Key → List Places → Sorts → List ℕ
    types_in_key (k.Ascending value _) ps d = types_in value ps d ++ failing (wanted is_scalar (verdict value d)) (start ps)
    types_in_key (k.Descending value _) ps d = types_in value ps d ++ failing (wanted is_scalar (verdict value d)) (start ps)

    -- a condition is a truth, and a bound a number
    pub types_in_option : Held-Body-condition → (SqlTy → Bool) → List Places → Sorts → List ℕ
    types_in_option None' suits ps d = []
    types_in_option (Some' _ (more_of-SqlExpr x end_of-SqlExpr)) suits ps d = types_in x ps d ++ failing (wanted suits (verdict x d)) (start ps)

  abbrev pub types_in_further_list : List Core → List Sort → List Places → Sorts → List ℕ
  types_in_further_list [] first ps d = []
  types_in_further_list (core ∷ more) first ps d =
      types_in_core core ps d ++ (unless_alike (alike first (core_sorts core d)) (start ps) ++ types_in_further_list more first (rest ps) d)

  abbrev pub types_in_list : List Core → List Places → Sorts → List ℕ
  types_in_list [] ps d = []
  types_in_list (core ∷ more) ps d = types_in_core core ps d ++ types_in_further_list more (core_sorts core d) (rest ps) d

-- the bytes of the expressions of a statement that fail by their types
abbrev pub type_faults : Catalog → Stmt → Places → List ℕ
type_faults catalog s place = types_in_list catalog (args_of s) s.select.cores (parts_of place) []
