-- What a statement means: the list of its rows, with a fault where a row would stand.
use Rattle.std.specs.Prelude.{ℕ, Bool, true, false, ◌||◌, List, [], ◌∷◌, ◌++◌, map, Option, Some, None, if◌then◌else◌}
use Rattle.std.specs.Cmp.Lexicographic.{pointwise}
use Rattle.ev_value.specs.Item.{bind, one, all_of, collect}
use Rattle.ev_value.specs.declared.item.Item.{Item}
use Rattle.ev_value.specs.declared.item.Item.TheVariants as item
use Rattle.ev_value.specs.declared.value.Val as val
use Rattle.ev_list.specs.Cut.{limit_of, section}
use Rattle.ev_list.specs.Occurrence.{distinct}
use Rattle.ev_list.specs.Order.{in_order, keyless}
use Rattle.ev_list.specs.declared.order.Direction.TheVariants as direction
use Rattle.ev_list.specs.declared.order.KeyOrder.{KeyOrder}
use Rattle.ev_list.specs.declared.order.Keyed.{Keyed}
use Rattle.sql_ast.specs.declared.expression.SqlExpr as e
use Rattle.sql_ast.specs.declared.expression.SqlExpr.{SqlExpr, Row_of-SqlExpr, end_of-SqlExpr, more_of-SqlExpr, Row_of-Core, end_of-Core, more_of-Core}
use Rattle.sql_ast.specs.declared.select.Core as c
use Rattle.sql_ast.specs.declared.select.Core.{Core, Row_of-Column, end_of-Column, more_of-Column, Row_of-FromItem, end_of-FromItem, more_of-FromItem, Row_of-Key, end_of-Key, more_of-Key, Held-Body-condition, None', Some'}
use Rattle.sql_ast.specs.declared.select.FromItem as f
use Rattle.sql_ast.specs.declared.select.FromItem.{FromItem}
use Rattle.sql_ast.specs.declared.select.Key as k
use Rattle.sql_ast.specs.declared.select.Key.{Key}
use Rattle.sql_table.specs.declared.cell.Cell.{Cell, Null, Val}
use Rattle.sql_table.specs.declared.cell.Cell.TheVariants as cell
use Rattle.sql_table.specs.Same.{cell_same}
use Rattle.sql_table.specs.Operators.{value_of, holds, truth_cell, unary_item, binary_item, cast_item, part, elements, function_item}
use Rattle.sql_table.specs.Names.{Name, Cells, Scope, World, column, entry, table_of, or_no_table, element_columns}

-- ---- items

-- what f makes of a value; a fault stays
abbrev pub on_value : {A B : Type 0} → Item A → (A → Item B) → Item B
on_value (item.Value a) f = f a
on_value (item.Fault e) f = item.Fault e

-- what f gives for a value; a fault stands alone
abbrev pub for_value : {A B : Type 0} → Item A → (A → List (Item B)) → List (Item B)
for_value (item.Value a) f = f a
for_value (item.Fault e) f = item.Fault e ∷ []

-- ---- rows of FROM

-- the scope in which a row stands under an alias
abbrev pub under : Name → List Name → Scope → Cells → Scope
under alias columns outer row = record { alias = alias; columns = columns; row = row } ∷ outer

-- the scopes of several rows, each under the alias
abbrev pub each_under : Name → List Name → Scope → List (Item Cells) → List (Item Scope)
each_under alias columns outer rows = bind rows (λ row. one (under alias columns outer row))

-- the rows, or one row of nulls where there is neither a row nor a fault
abbrev pub or_nulls : List Name → List (Item Cells) → List (Item Cells)
or_nulls columns [] = one (map (λ name. Null) columns)
or_nulls columns (x ∷ xs) = x ∷ xs

-- the elements of an array as rows of one cell; null has none
abbrev pub rows_among : Option (List Cell) → List (Item Cells)
rows_among (Some cs) = all_of (map (λ c. c ∷ []) cs)
rows_among None = []

abbrev pub element_rows : Cell → List (Item Cells)
element_rows x = rows_among (elements x)

-- ---- ARRAY

abbrev pub first_cell : Cells → Cell
first_cell (c ∷ cs) = c
first_cell [] = Null

-- the first cells of the rows, or the first fault
abbrev pub first_cells : List (Item Cells) → Item Cells
first_cells [] = item.Value []
first_cells (item.Value row ∷ rows) = on_value (first_cells rows) (λ cs. item.Value (first_cell row ∷ cs))
first_cells (item.Fault e ∷ rows) = item.Fault e

-- ---- the steps behind FROM

-- a row with the keys that order it, where its condition is true; a fault of the condition, of its cells or of its keys,
-- whichever comes first, stands in its place
abbrev pub row_where : Item Bool → Item Cells → Item (List (Option val.Val)) → List (Item (Keyed Cells))
row_where condition row keys =
    for_value condition (λ true_there. if true_there then on_value row (λ cells. on_value keys (λ ks. item.Value (record { keys = ks; value = cells }))) ∷ [] else [])

-- how many rows OFFSET or LIMIT says; null says nothing
abbrev pub counted : Item Cell → Item (Option ℕ)
counted x = on_value x (λ c. limit_of (value_of c))

-- whether two rows are the same, cell by cell
abbrev pub row_same : Cells → Cells → Bool
row_same = pointwise cell_same

-- each row once, where only distinct ones are wanted
abbrev pub once : Bool → List Cells → List Cells
once true rows = distinct row_same rows
once false rows = rows

-- which of the clauses DISTINCT, ORDER BY, OFFSET and LIMIT a SELECT has
pub record Clauses : Type 0 where
  pub is_distinct : Bool
  pub orders : List KeyOrder
  pub has_offset : Bool
  pub has_limit : Bool

abbrev pub is_ordered : List KeyOrder → Bool
is_ordered [] = false
is_ordered (o ∷ more) = true

abbrev pub has_clause : Clauses → Bool
has_clause s = s.is_distinct || is_ordered s.orders || s.has_offset || s.has_limit

-- With one of these clauses the faults stand alone where there are any; else the rows are put in order, each is kept
-- once, and OFFSET and LIMIT cut. Without one the rows and faults stay as they stand.
abbrev pub arranged : Clauses → Option ℕ → Option ℕ → List (Item (Keyed Cells)) → List (Item Cells)
arranged s offset limit rows =
    if has_clause s then collect (λ found. all_of (section offset limit (once s.is_distinct (keyless (in_order s.orders found))))) rows
    else bind rows (λ row. one row.value)

-- OFFSET and then LIMIT are looked at first: the first fault of theirs is the whole list
abbrev pub selected : Clauses → Item Cell → Item Cell → List (Item (Keyed Cells)) → List (Item Cells)
selected s offset limit rows = for_value (counted offset) (λ o. for_value (counted limit) (λ l. arranged s o l rows))

-- ---- names and forms

abbrev pub column_names : {m : _} → Row_of-Column m → List Name
column_names end_of-Column = []
column_names (more_of-Column value name more) = name ∷ column_names more

abbrev pub names_of_core : Core → List Name
names_of_core (c.All' _ columns _ _ _ _ _ _ _) = column_names columns
names_of_core (c.Distinct' _ columns _ _ _ _ _ _ _) = column_names columns

-- the columns of a SELECT have the names that its first core gives
abbrev pub names_of_select : {m : _} → Row_of-Core m → List Name
names_of_select end_of-Core = []
names_of_select (more_of-Core core more) = names_of_core core

abbrev pub order_of : Key → KeyOrder
order_of (k.Ascending value nulls) = record { direction = direction.Ascending; absent = nulls }
order_of (k.Descending value nulls) = record { direction = direction.Descending; absent = nulls }

abbrev pub orders_of : {m : _} → Row_of-Key m → List KeyOrder
orders_of end_of-Key = []
orders_of (more_of-Key key more) = order_of key ∷ orders_of more

abbrev pub is_there : Held-Body-condition → Bool
is_there None' = false
is_there (Some' _ _) = true

-- ---- expressions and selects

module _ (w : World) where
  unfoldable mutual
    -- the cell of an expression in a scope, or its fault: operands are evaluated from left to right, and the first fault
    -- is the fault of the whole
    pub cell_of_expr : SqlExpr → Scope → Item Cell
    cell_of_expr (e.Int z) r = item.Value (Val (val.Int z))
    cell_of_expr (e.Text s) r = item.Value (Val (val.Str s))
    cell_of_expr (e.Bool b) r = item.Value (truth_cell b)
    cell_of_expr (e.Uuid n) r = item.Value (Val (val.Id n))
    cell_of_expr (e.Null ty) r = item.Value Null
    cell_of_expr (e.Column alias name) r = item.Value (column alias name r)
    cell_of_expr (e.Arg name ty) r = item.Value (entry name w.args.params)
    cell_of_expr (e.Global name) r = item.Value (entry name w.args.globals)
    cell_of_expr (e.Array' _ cores) r = on_value (first_cells (rows_of_cores cores r)) (λ cs. item.Value (cell.Array cs))
    cell_of_expr (e.Row' _ parts) r = on_value (cells_of_exprs parts r) (λ cs. item.Value (cell.Row cs))
    cell_of_expr (e.Part' _ (more_of-SqlExpr row end_of-SqlExpr) number) r = on_value (cell_of_expr row r) (λ x. item.Value (part number x))
    cell_of_expr (e.Case' _ (more_of-SqlExpr condition end_of-SqlExpr) _ (more_of-SqlExpr value end_of-SqlExpr) _ (more_of-SqlExpr other end_of-SqlExpr)) r =
        on_value (cell_of_expr condition r) (λ x. if holds x then cell_of_expr value r else cell_of_expr other r)
    cell_of_expr (e.Cast' _ (more_of-SqlExpr operand end_of-SqlExpr) ty) r = on_value (cell_of_expr operand r) (cast_item ty)
    cell_of_expr (e.Unary' operator _ (more_of-SqlExpr operand end_of-SqlExpr)) r = on_value (cell_of_expr operand r) (unary_item operator)
    cell_of_expr (e.Binary' operator _ (more_of-SqlExpr left end_of-SqlExpr) _ (more_of-SqlExpr right end_of-SqlExpr)) r =
        on_value (cell_of_expr left r) (λ x. on_value (cell_of_expr right r) (λ y. binary_item operator x y))
    cell_of_expr (e.Call' called _ (more_of-SqlExpr operand end_of-SqlExpr)) r = on_value (cell_of_expr operand r) (function_item called)

    -- the cells of several expressions, or the first fault
    pub cells_of_exprs : {m : _} → Row_of-SqlExpr m → Scope → Item Cells
    cells_of_exprs end_of-SqlExpr r = item.Value []
    cells_of_exprs (more_of-SqlExpr first more) r = on_value (cell_of_expr first r) (λ x. on_value (cells_of_exprs more r) (λ xs. item.Value (x ∷ xs)))

    -- the rows of the cores one after the other: UNION ALL
    pub rows_of_cores : {m : _} → Row_of-Core m → Scope → List (Item Cells)
    rows_of_cores end_of-Core r = []
    rows_of_cores (more_of-Core core more) r = rows_of_core core r ++ rows_of_cores more r

    -- the rows of one core: for each turn of FROM a row where WHERE is true, then what the other clauses make of them.
    -- OFFSET and LIMIT see the outer scope only.
    pub rows_of_core : Core → Scope → List (Item Cells)
    rows_of_core (c.All' _ columns _ turns condition _ keys offset limit) r =
        selected (record { is_distinct = false; orders = orders_of keys; has_offset = is_there offset; has_limit = is_there limit })
        (cell_or_null offset r) (cell_or_null limit r)
        (bind (turns_of_from turns r) (λ turn. row_where (truth_of_condition condition turn) (cells_of_columns columns turn) (values_of_keys keys turn)))
    rows_of_core (c.Distinct' _ columns _ turns condition _ keys offset limit) r =
        selected (record { is_distinct = true; orders = orders_of keys; has_offset = is_there offset; has_limit = is_there limit })
        (cell_or_null offset r) (cell_or_null limit r)
        (bind (turns_of_from turns r) (λ turn. row_where (truth_of_condition condition turn) (cells_of_columns columns turn) (values_of_keys keys turn)))

    -- FROM is a nested loop from left to right. Each turn is the scope with the rows of all items; a fault of an item
    -- stands in the place of its turns. Without items there is one turn.
    pub turns_of_from : {m : _} → Row_of-FromItem m → Scope → List (Item Scope)
    turns_of_from end_of-FromItem r = one r
    turns_of_from (more_of-FromItem first more) r = bind (turns_of_item first r) (λ turn. turns_of_from more turn)

    -- the scopes that one item makes of a scope
    pub turns_of_item : FromItem → Scope → List (Item Scope)
    turns_of_item (f.Table name alias) r = let t = or_no_table (table_of name w.tables) in each_under alias t.columns r (all_of t.rows)
    turns_of_item (f.Lateral' _ cores alias) r = each_under alias (names_of_select cores) r (rows_of_cores cores r)
    turns_of_item (f.LeftLateral' _ cores alias) r = each_under alias (names_of_select cores) r (or_nulls (names_of_select cores) (rows_of_cores cores r))
    turns_of_item (f.Unnest array alias) r = for_value (cell_of_expr array r) (λ x. each_under alias element_columns r (element_rows x))

    -- the cells of the columns, or the first fault
    pub cells_of_columns : {m : _} → Row_of-Column m → Scope → Item Cells
    cells_of_columns end_of-Column r = item.Value []
    cells_of_columns (more_of-Column value name more) r = on_value (cell_of_expr value r) (λ x. on_value (cells_of_columns more r) (λ xs. item.Value (x ∷ xs)))

    -- the values of the keys, or the first fault; a null is absent
    pub values_of_keys : {m : _} → Row_of-Key m → Scope → Item (List (Option val.Val))
    values_of_keys end_of-Key r = item.Value []
    values_of_keys (more_of-Key key more) r = on_value (cell_of_key key r) (λ x. on_value (values_of_keys more r) (λ xs. item.Value (value_of x ∷ xs)))

    pub cell_of_key : Key → Scope → Item Cell
    cell_of_key (k.Ascending value nulls) r = cell_of_expr value r
    cell_of_key (k.Descending value nulls) r = cell_of_expr value r

    -- whether WHERE is true; it is where there is none
    pub truth_of_condition : Held-Body-condition → Scope → Item Bool
    truth_of_condition None' r = item.Value true
    truth_of_condition (Some' _ (more_of-SqlExpr condition end_of-SqlExpr)) r = on_value (cell_of_expr condition r) (λ x. item.Value (holds x))

    -- the cell of OFFSET or LIMIT; null where there is none
    pub cell_or_null : Held-Body-condition → Scope → Item Cell
    cell_or_null None' r = item.Value Null
    cell_or_null (Some' _ (more_of-SqlExpr bound end_of-SqlExpr)) r = cell_of_expr bound r
