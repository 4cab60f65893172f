-- The meaning at the code's constructors.
use Rattle.std.proofs.Common.{◌≡◌, List, [], ◌∷◌, ◌++◌, Bool, true, false, cond, Option, Some, None, refl, ap, ℤ, ℕ}
use Rattle.ev_value.specs.Item.{bind, all_of}
use Rattle.ev_value.specs.declared.item.Item.TheVariants as item
use Rattle.ev_value.specs.declared.value.Val as val
use Rattle.ev_list.specs.declared.order.Absent.{Absent}
use Rattle.sql_ast.specs.declared.expression.Binary.{Binary}
use Rattle.sql_ast.specs.declared.expression.Case.{Case}
use Rattle.sql_ast.specs.declared.expression.Function.{Function}
use Rattle.sql_ast.specs.declared.expression.SqlExpr.{SqlExpr}
use Rattle.sql_ast.specs.declared.expression.SqlExpr.TheBlock as block
use Rattle.sql_ast.specs.declared.expression.SqlExpr.TheVariants as expr
use Rattle.sql_ast.specs.declared.expression.UnaryOp.{UnaryOp}
use Rattle.sql_ast.specs.declared.select.Body.{Body}
use Rattle.sql_ast.specs.declared.select.Column.{Column}
use Rattle.sql_ast.specs.declared.select.Core.{Core}
use Rattle.sql_ast.specs.declared.select.Core.TheVariants as core
use Rattle.sql_ast.specs.declared.select.FromItem.{FromItem}
use Rattle.sql_ast.specs.declared.select.FromItem.TheVariants as from
use Rattle.sql_ast.specs.declared.select.Key.{Key}
use Rattle.sql_ast.specs.declared.select.Key.TheVariants as key
use Rattle.sql_ast.specs.declared.select.Select.{Select}
use Rattle.sql_ast.specs.declared.ty.SqlTy.{SqlTy}
use Rattle.sql_table.specs.declared.cell.Cell.TheVariants as cell
use Rattle.sql_table.specs.Names.{Name, Scope, World, column, entry, table_of, or_no_table, element_columns}
use Rattle.sql_table.specs.Operators.{holds, part, binary_item, unary_item, cast_item, function_item, value_of}
use Rattle.sql_table.specs.Meaning.{on_value, for_value, element_rows, first_cells, selected, row_where, each_under, or_nulls, column_names, names_of_core, names_of_select, orders_of, order_of, is_there, cell_of_expr, rows_of_core, turns_of_item, turns_of_from, cells_of_exprs, rows_of_cores, cells_of_columns, values_of_keys, cell_of_key, truth_of_condition, cell_or_null}
use Rattle.sql_table.specs.Forms.{names_of, names_of_cores, orders_of_keys, is_present, cells_of_all, cells_of, values_of, turns_of, rows_of, truth_of, bound_of, row_of, core_rows}
use denote.Hole.Carrier as carrier

-- ---- names, orders and options

names_hidden : (columns : List Column) → column_names (block.hidden-the_row-Column-3 columns) ≡ names_of columns
unfolding block.hidden-the_row-Column-3 carrier.hidden
names_hidden [] = refl
names_hidden (c ∷ cs) = ap (λ l. c.name ∷ l) (names_hidden cs)

pub names_all : (columns : List Column) (body : Body) → names_of_core (core.All columns body) ≡ names_of columns
names_all columns body = names_hidden columns

pub names_distinct : (columns : List Column) (body : Body) → names_of_core (core.Distinct columns body) ≡ names_of columns
names_distinct columns body = names_hidden columns

names_of_hidden : (cores : List Core) → names_of_select (block.hidden-the_row-Core-0 cores) ≡ names_of_cores cores
unfolding block.hidden-the_row-Core-0 carrier.hidden
names_of_hidden [] = refl
names_of_hidden (c ∷ cs) = refl

orders_hidden : (keys : List Key) → orders_of (block.hidden-the_row-Key-5 keys) ≡ orders_of_keys keys
unfolding block.hidden-the_row-Key-5 carrier.hidden
orders_hidden [] = refl
orders_hidden (k ∷ ks) = ap (λ l. order_of k ∷ l) (orders_hidden ks)

there_back : (o : Option SqlExpr) → is_there (block.back-Body-condition o) ≡ is_present o
there_back None = refl
there_back (Some x) = refl

module _ (w : World) where
  -- ---- lists and options

  cells_hidden : (es : List SqlExpr) (r : Scope) → cells_of_exprs w (block.hidden-the_row-SqlExpr-1 es) r ≡ cells_of_all w es r
  unfolding cell_of_expr block.hidden-the_row-SqlExpr-1 carrier.hidden
  cells_hidden [] r = refl
  cells_hidden (e ∷ es) r = ap (λ rest. on_value (cell_of_expr w e r) (λ x. on_value rest (λ xs. item.Value (x ∷ xs)))) (cells_hidden es r)

  columns_hidden : (cs : List Column) (r : Scope) → cells_of_columns w (block.hidden-the_row-Column-3 cs) r ≡ cells_of w cs r
  unfolding cell_of_expr block.hidden-the_row-Column-3 carrier.hidden
  columns_hidden [] r = refl
  columns_hidden (c ∷ cs) r = ap (λ rest. on_value (cell_of_expr w c.value r) (λ x. on_value rest (λ xs. item.Value (x ∷ xs)))) (columns_hidden cs r)

  keys_hidden : (ks : List Key) (r : Scope) → values_of_keys w (block.hidden-the_row-Key-5 ks) r ≡ values_of w ks r
  unfolding cell_of_expr block.hidden-the_row-Key-5 carrier.hidden
  keys_hidden [] r = refl
  keys_hidden (k ∷ ks) r = ap (λ rest. on_value (cell_of_key w k r) (λ x. on_value rest (λ xs. item.Value (value_of x ∷ xs)))) (keys_hidden ks r)

  turns_hidden : (items : List FromItem) (r : Scope) → turns_of_from w (block.hidden-the_row-FromItem-4 items) r ≡ turns_of w items r
  unfolding cell_of_expr block.hidden-the_row-FromItem-4 carrier.hidden
  turns_hidden [] r = refl
  turns_hidden (i ∷ is) r = ap (bind (turns_of_item w i r)) (λ n turn. turns_hidden is turn n)

  rows_hidden : (cores : List Core) (r : Scope) → rows_of_cores w (block.hidden-the_row-Core-0 cores) r ≡ rows_of w cores r
  unfolding cell_of_expr block.hidden-the_row-Core-0 carrier.hidden
  rows_hidden [] r = refl
  rows_hidden (c ∷ cs) r = ap (λ rest. rows_of_core w c r ++ rest) (rows_hidden cs r)

  truth_back : (o : Option SqlExpr) (r : Scope) → truth_of_condition w (block.back-Body-condition o) r ≡ truth_of w o r
  unfolding cell_of_expr block.hidden-the_row-SqlExpr-2 carrier.hidden
  truth_back None r = refl
  truth_back (Some x) r = refl

  bound_back : (o : Option SqlExpr) (r : Scope) → cell_or_null w (block.back-Body-condition o) r ≡ bound_of w o r
  unfolding cell_of_expr block.hidden-the_row-SqlExpr-2 carrier.hidden
  bound_back None r = refl
  bound_back (Some x) r = refl

  -- ---- expressions

  pub of_array : (s : Select) (r : Scope) → cell_of_expr w (expr.Array s) r ≡ on_value (first_cells (rows_of w s.cores r)) (λ cs. item.Value (cell.Array cs))
  unfolding cell_of_expr
  of_array s r = ap (λ rows. on_value (first_cells rows) (λ cs. item.Value (cell.Array cs))) (rows_hidden s.cores r)

  pub of_row : (es : List SqlExpr) (r : Scope) → cell_of_expr w (expr.Row es) r ≡ on_value (cells_of_all w es r) (λ cs. item.Value (cell.Row cs))
  unfolding cell_of_expr
  of_row es r = ap (λ cells. on_value cells (λ cs. item.Value (cell.Row cs))) (cells_hidden es r)

  pub of_part : (row : SqlExpr) (number : ℤ) (r : Scope) → cell_of_expr w (expr.Part row number) r ≡ on_value (cell_of_expr w row r) (λ x. item.Value (part number x))
  unfolding cell_of_expr block.hidden-the_row-SqlExpr-2 carrier.hidden
  of_part row number r = refl

  pub of_case : (form : Case) (r : Scope) → cell_of_expr w (expr.Case form) r ≡ on_value (cell_of_expr w form.condition r) (λ x. cond (holds x) (cell_of_expr w form.value r) (cell_of_expr w form.other r))
  unfolding cell_of_expr block.hidden-the_row-SqlExpr-2 carrier.hidden
  of_case form r = refl

  pub of_cast : (operand : SqlExpr) (ty : SqlTy) (r : Scope) → cell_of_expr w (expr.Cast operand ty) r ≡ on_value (cell_of_expr w operand r) (cast_item ty)
  unfolding cell_of_expr block.hidden-the_row-SqlExpr-2 carrier.hidden
  of_cast operand ty r = refl

  pub of_unary : (operator : UnaryOp) (operand : SqlExpr) (r : Scope) → cell_of_expr w (expr.Unary operator operand) r ≡ on_value (cell_of_expr w operand r) (unary_item operator)
  unfolding cell_of_expr block.hidden-the_row-SqlExpr-2 carrier.hidden
  of_unary operator operand r = refl

  pub of_binary : (form : Binary) (r : Scope) → cell_of_expr w (expr.Binary form) r ≡ on_value (cell_of_expr w form.left r) (λ x. on_value (cell_of_expr w form.right r) (λ y. binary_item form.operator x y))
  unfolding cell_of_expr block.hidden-the_row-SqlExpr-2 carrier.hidden
  of_binary form r = refl

  pub of_call : (called : Function) (operand : SqlExpr) (r : Scope) → cell_of_expr w (expr.Call called operand) r ≡ on_value (cell_of_expr w operand r) (function_item called)
  unfolding cell_of_expr block.hidden-the_row-SqlExpr-2 carrier.hidden
  of_call called operand r = refl

  -- ---- keys, cores and items of FROM

  pub of_ascending : (value : SqlExpr) (nulls : Absent) (r : Scope) → cell_of_key w (key.Ascending value nulls) r ≡ cell_of_expr w value r
  unfolding cell_of_expr
  of_ascending value nulls r = refl

  pub of_descending : (value : SqlExpr) (nulls : Absent) (r : Scope) → cell_of_key w (key.Descending value nulls) r ≡ cell_of_expr w value r
  unfolding cell_of_expr
  of_descending value nulls r = refl

  row_hidden : (columns : List Column) (body : Body) (turn : Scope)
      → row_where (truth_of_condition w (block.back-Body-condition body.condition) turn) (cells_of_columns w (block.hidden-the_row-Column-3 columns) turn) (values_of_keys w (block.hidden-the_row-Key-5 body.keys) turn) ≡ row_of w columns body turn
  row_hidden columns body turn = λ i. row_where (truth_back body.condition turn i) (columns_hidden columns turn i) (keys_hidden body.keys turn i)

  pub of_all : (columns : List Column) (body : Body) (r : Scope) → rows_of_core w (core.All columns body) r ≡ core_rows w false columns body r
  unfolding cell_of_expr
  of_all columns body r = λ i. selected (record { is_distinct = false; orders = orders_hidden body.keys i; has_offset = there_back body.offset i; has_limit = there_back body.limit i })
      (bound_back body.offset r i) (bound_back body.limit r i) (bind (turns_hidden body.from r i) (λ turn. row_hidden columns body turn i))

  pub of_distinct : (columns : List Column) (body : Body) (r : Scope) → rows_of_core w (core.Distinct columns body) r ≡ core_rows w true columns body r
  unfolding cell_of_expr
  of_distinct columns body r = λ i. selected (record { is_distinct = true; orders = orders_hidden body.keys i; has_offset = there_back body.offset i; has_limit = there_back body.limit i })
      (bound_back body.offset r i) (bound_back body.limit r i) (bind (turns_hidden body.from r i) (λ turn. row_hidden columns body turn i))

  pub of_lateral : (s : Select) (alias : Name) (r : Scope) → turns_of_item w (from.Lateral s alias) r ≡ each_under alias (names_of_cores s.cores) r (rows_of w s.cores r)
  unfolding cell_of_expr
  of_lateral s alias r = λ i. each_under alias (names_of_hidden s.cores i) r (rows_hidden s.cores r i)

  pub of_left : (s : Select) (alias : Name) (r : Scope) → turns_of_item w (from.LeftLateral s alias) r ≡ each_under alias (names_of_cores s.cores) r (or_nulls (names_of_cores s.cores) (rows_of w s.cores r))
  unfolding cell_of_expr
  of_left s alias r = λ i. each_under alias (names_of_hidden s.cores i) r (or_nulls (names_of_hidden s.cores i) (rows_hidden s.cores r i))

  pub of_table : (name alias : Name) (r : Scope) → turns_of_item w (from.Table name alias) r ≡ (let t = or_no_table (table_of name w.tables) in each_under alias t.columns r (all_of t.rows))
  unfolding cell_of_expr
  of_table name alias r = refl

  pub of_unnest : (array : SqlExpr) (alias : Name) (r : Scope) → turns_of_item w (from.Unnest array alias) r ≡ for_value (cell_of_expr w array r) (λ x. each_under alias element_columns r (element_rows x))
  unfolding cell_of_expr
  of_unnest array alias r = refl

  -- ---- leaves

  pub of_int : (z : ℤ) (r : Scope) → cell_of_expr w (expr.Int z) r ≡ item.Value (cell.Val (val.Int z))
  unfolding cell_of_expr
  of_int z r = refl

  pub of_text : (s : List ℕ) (r : Scope) → cell_of_expr w (expr.Text s) r ≡ item.Value (cell.Val (val.Str s))
  unfolding cell_of_expr
  of_text s r = refl

  pub of_bool : (b : Bool) (r : Scope) → cell_of_expr w (expr.Bool b) r ≡ item.Value (cell.Val (val.Bool b))
  unfolding cell_of_expr
  of_bool b r = refl

  pub of_uuid : (n : ℕ) (r : Scope) → cell_of_expr w (expr.Uuid n) r ≡ item.Value (cell.Val (val.Id n))
  unfolding cell_of_expr
  of_uuid n r = refl

  pub of_null : (ty : SqlTy) (r : Scope) → cell_of_expr w (expr.Null ty) r ≡ item.Value cell.Null
  unfolding cell_of_expr
  of_null ty r = refl

  pub of_column : (alias name : Name) (r : Scope) → cell_of_expr w (expr.Column alias name) r ≡ item.Value (column alias name r)
  unfolding cell_of_expr
  of_column alias name r = refl

  pub of_arg : (name : Name) (ty : SqlTy) (r : Scope) → cell_of_expr w (expr.Arg name ty) r ≡ item.Value (entry name w.args.params)
  unfolding cell_of_expr
  of_arg name ty r = refl

  pub of_global : (name : Name) (r : Scope) → cell_of_expr w (expr.Global name) r ≡ item.Value (entry name w.args.globals)
  unfolding cell_of_expr
  of_global name r = refl
