-- The meaning of lists of forms, of optional ones and of a whole statement.
use Rattle.std.specs.Prelude.{Bool, true, false, List, [], ◌∷◌, ◌++◌, map, Option, Some, None}
use Rattle.ev_value.specs.Item.{bind, one}
use Rattle.ev_value.specs.declared.item.Item.{Item}
use Rattle.ev_value.specs.declared.item.Item.TheVariants as item
use Rattle.ev_value.specs.declared.value.Val as val
use Rattle.ev_list.specs.declared.order.KeyOrder.{KeyOrder}
use Rattle.ev_list.specs.declared.order.Keyed.{Keyed}
use Rattle.sql_ast.specs.declared.expression.SqlExpr.{SqlExpr}
use Rattle.sql_ast.specs.declared.select.Body.{Body}
use Rattle.sql_ast.specs.declared.select.Column.{Column}
use Rattle.sql_ast.specs.declared.select.Core.{Core}
use Rattle.sql_ast.specs.declared.select.FromItem.{FromItem}
use Rattle.sql_ast.specs.declared.select.Key.{Key}
use Rattle.sql_ast.specs.declared.select.Stmt.{Stmt}
use Rattle.sql_table.specs.declared.cell.Cell.{Cell, Null}
use Rattle.sql_table.specs.Operators.{value_of, holds}
use Rattle.sql_table.specs.Names.{Name, Cells, Scope, World}
use Rattle.sql_table.specs.Meaning.{Clauses, on_value, selected, row_where, names_of_core, order_of, cell_of_expr, rows_of_core, turns_of_item, cell_of_key}

-- the names of columns
abbrev pub names_of : List Column → List Name
names_of columns = map (λ c. c.name) columns

-- the names of the columns of a select: those of its first core
abbrev pub names_of_cores : List Core → List Name
names_of_cores [] = []
names_of_cores (core ∷ more) = names_of_core core

-- the orders of keys
abbrev pub orders_of_keys : List Key → List KeyOrder
orders_of_keys keys = map order_of keys

abbrev pub is_present : Option SqlExpr → Bool
is_present None = false
is_present (Some x) = true

-- the clauses of a core
abbrev pub clauses_of : Bool → Body → Clauses
clauses_of is_distinct body = record { is_distinct = is_distinct; orders = orders_of_keys body.keys; has_offset = is_present body.offset; has_limit = is_present body.limit }

module _ (w : World) where
  -- the cells of expressions, or the first fault
  abbrev pub cells_of_all : List SqlExpr → Scope → Item Cells
  cells_of_all [] r = item.Value []
  cells_of_all (first ∷ more) r = on_value (cell_of_expr w first r) (λ x. on_value (cells_of_all more r) (λ xs. item.Value (x ∷ xs)))

  -- the cells of columns, or the first fault
  abbrev pub cells_of : List Column → Scope → Item Cells
  cells_of [] r = item.Value []
  cells_of (first ∷ more) r = on_value (cell_of_expr w first.value r) (λ x. on_value (cells_of more r) (λ xs. item.Value (x ∷ xs)))

  -- the values of keys, or the first fault
  abbrev pub values_of : List Key → Scope → Item (List (Option val.Val))
  values_of [] r = item.Value []
  values_of (first ∷ more) r = on_value (cell_of_key w first r) (λ x. on_value (values_of more r) (λ xs. item.Value (value_of x ∷ xs)))

  -- the turns of a loop over items
  abbrev pub turns_of : List FromItem → Scope → List (Item Scope)
  turns_of [] r = one r
  turns_of (first ∷ more) r = bind (turns_of_item w first r) (turns_of more)

  -- the rows of cores, one after the other
  abbrev pub rows_of : List Core → Scope → List (Item Cells)
  rows_of [] r = []
  rows_of (core ∷ more) r = rows_of_core w core r ++ rows_of more r

  -- whether a condition that may be left out is true
  abbrev pub truth_of : Option SqlExpr → Scope → Item Bool
  truth_of None r = item.Value true
  truth_of (Some condition) r = on_value (cell_of_expr w condition r) (λ x. item.Value (holds x))

  -- the cell of a bound that may be left out
  abbrev pub bound_of : Option SqlExpr → Scope → Item Cell
  bound_of None r = item.Value Null
  bound_of (Some bound) r = cell_of_expr w bound r

  -- the row of one turn
  abbrev pub row_of : List Column → Body → Scope → List (Item (Keyed Cells))
  row_of columns body turn = row_where (truth_of body.condition turn) (cells_of columns turn) (values_of body.keys turn)

  -- the rows of a core
  abbrev pub core_rows : Bool → List Column → Body → Scope → List (Item Cells)
  core_rows is_distinct columns body r =
      selected (clauses_of is_distinct body) (bound_of body.offset r) (bound_of body.limit r) (bind (turns_of body.from r) (row_of columns body))

  -- the rows of a statement, with a fault where a row would stand
  abbrev pub rows_of_statement : Stmt → List (Item Cells)
  rows_of_statement s = rows_of s.select.cores []
