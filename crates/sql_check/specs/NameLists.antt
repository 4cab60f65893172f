-- The same of lists of forms, and of optional ones.
use Rattle.std.specs.Prelude.{ℕ, not, List, [], ◌∷◌, ◌++◌, map, length, drop, Bool, false, Option, Some, None, if◌then◌else◌}
use Rattle.std.specs.Str.{bytes_eq}
use Rattle.sql_ast.specs.declared.catalog.Catalog.{Catalog}
use Rattle.sql_ast.specs.declared.expression.SqlExpr.{SqlExpr}
use Rattle.sql_ast.specs.declared.select.Body.{Body}
use Rattle.sql_ast.specs.declared.select.Column.{Column}
use Rattle.sql_ast.specs.declared.select.Core.{Core}
use Rattle.sql_ast.specs.declared.select.FromItem.{FromItem}
use Rattle.sql_ast.specs.declared.select.Key.{Key}
use Rattle.sql_ast.specs.WellFormed.{Name, alias_of}
use Rattle.sql_grammar.specs.declared.grown.Places.{Places}
use Rattle.sql_check.specs.Walk.{start, inner, rest}
use Rattle.sql_check.specs.Names.{Scope, with_items, has_alias, is_among, has_column, is_column, unless, names_in, names_in_item, names_in_key, core_gives}

-- the names of columns
abbrev pub column_names : List Column → List Name
column_names columns = map (λ c. c.name) columns

-- whether the first of some cores gives a column of this name
abbrev pub first_gives : Name → List Core → Bool
first_gives name [] = false
first_gives name (core ∷ more) = core_gives name core

-- the newest item under an alias, or else this one
abbrev pub newest : Name → List FromItem → Option FromItem → Option FromItem
newest alias [] found = found
newest alias (i ∷ more) found = newest alias more (if bytes_eq (alias_of i) alias then Some i else found)

-- the places behind that of a form that need not be there
abbrev pub beyond_option : Option SqlExpr → List Places → List Places
beyond_option None ps = ps
beyond_option (Some x) ps = rest ps

module _ (catalog : Catalog) where
  -- whether the item has the column, or else the scope
  abbrev pub is_column_of : Name → Name → Option FromItem → Scope → Bool
  is_column_of alias name None d = is_column catalog alias name d
  is_column_of alias name (Some i) d = has_column catalog name i

  abbrev pub names_in_exprs : List SqlExpr → List Places → Scope → List ℕ
  names_in_exprs [] ps d = []
  names_in_exprs (first ∷ more) ps d = names_in catalog first ps d ++ names_in_exprs more (rest ps) d

  -- of one column behind those with these names
  abbrev pub names_in_column : Column → List Name → List Places → Scope → List ℕ
  names_in_column first before ps d = names_in catalog first.value (inner ps) d ++ unless (not (is_among first.name before)) (start ps)

  abbrev pub names_in_column_list : List Column → List Name → List Places → Scope → List ℕ
  names_in_column_list [] before ps d = []
  names_in_column_list (first ∷ more) before ps d = names_in_column first before ps d ++ names_in_column_list more (before ++ first.name ∷ []) (rest ps) d

  -- of one item behind these
  abbrev pub names_in_next : FromItem → List FromItem → List Places → Scope → List ℕ
  names_in_next first before ps d = names_in_item catalog first ps (with_items before d) ++ unless (not (has_alias (alias_of first) before)) (start ps)

  abbrev pub names_in_item_list : List FromItem → List FromItem → List Places → Scope → List ℕ
  names_in_item_list [] before ps d = []
  names_in_item_list (first ∷ more) before ps d = names_in_next first before ps d ++ names_in_item_list more (before ++ first ∷ []) (rest ps) d

  abbrev pub names_in_key_list : List Key → List Places → Scope → List ℕ
  names_in_key_list [] ps d = []
  names_in_key_list (first ∷ more) ps d = names_in_key catalog first ps d ++ names_in_key_list more (rest ps) d

  abbrev pub names_in_held : Option SqlExpr → List Places → Scope → List ℕ
  names_in_held None ps d = []
  names_in_held (Some x) ps d = names_in catalog x ps d

  -- of OFFSET and LIMIT
  abbrev pub names_in_bounds : Body → List Places → Scope → List ℕ
  names_in_bounds body ps d = names_in_held body.offset ps d ++ names_in_held body.limit (beyond_option body.offset ps) d

  -- of the keys, in the scope inside, and what stands behind them
  abbrev pub names_in_order : Body → List Places → Scope → Scope → List ℕ
  names_in_order body ps within d = names_in_key_list body.keys ps within ++ names_in_bounds body (drop (length body.keys) ps) d

  -- of the condition, in the scope inside, and what stands behind it
  abbrev pub names_in_rows : Body → List Places → Scope → Scope → List ℕ
  names_in_rows body ps within d = names_in_held body.condition ps within ++ names_in_order body (beyond_option body.condition ps) within d

  -- of what stands behind the columns
  abbrev pub names_in_body : Body → List Places → Scope → List ℕ
  names_in_body body ps d = names_in_item_list body.from [] ps d ++ names_in_rows body (drop (length body.from) ps) (with_items body.from d) d

  -- of a core with these columns and what stands behind them
  abbrev pub names_in_parts : List Column → Body → List Places → Scope → List ℕ
  names_in_parts columns body ps d = names_in_column_list columns [] (inner ps) (with_items body.from d) ++ names_in_body body (drop (length columns) (inner ps)) d
