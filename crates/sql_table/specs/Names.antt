-- What the names of a statement stand for.
use Rattle.std.specs.Prelude.{◌≡◌, ℕ, List, [], ◌∷◌, codes, map, Option, Some, None, IfSome, IsSome, if◌then◌else◌}
use denote.Ref.{Bor}
use Rattle.std.specs.Str.{bytes_eq}
use Rattle.ev_value.specs.declared.args.Args.{Args}
use Rattle.ev_value.specs.declared.args.Argument.{Argument}
use Rattle.sql_ast.specs.declared.catalog.Catalog.{Catalog}
use Rattle.sql_ast.specs.declared.catalog.TableShape.{TableShape}
use Rattle.sql_table.specs.declared.cell.Cell.{Cell, Null, Val}
use Rattle.sql_table.specs.declared.frame.Frame.{Frame}
use Rattle.sql_table.specs.declared.tables.Table.{Table}
use Rattle.sql_table.specs.declared.tables.Tables.{Tables}

-- the bytes of a name
abbrev pub Name : Type 0
Name = List ℕ

-- the cells of a row
abbrev pub Cells : Type 0
Cells = List Cell

-- the rows that the aliases in scope stand for, the newest first
abbrev pub Scope : Type 0
Scope = List Frame

-- the cell of the first column with a name; null where there is none
abbrev pub cell_named : Name → List Name → Cells → Cell
cell_named name (n ∷ ns) (c ∷ cs) = if bytes_eq n name then c else cell_named name ns cs
cell_named name _ _ = Null

-- the cell of a column of the newest row under an alias
abbrev pub column : Name → Name → Scope → Cell
column alias name [] = Null
column alias name (f ∷ outer) = if bytes_eq f.alias alias then cell_named name f.columns f.row else column alias name outer

-- what a caller hands to a statement, beside its text
pub record World : Type 0 where
  pub tables : Tables
  pub args : Args

-- the value of the first entry with a name; null where there is none
abbrev pub entry : Name → List Argument → Cell
entry name [] = Null
entry name (a ∷ more) = if bytes_eq a.name name then Val a.value else entry name more

-- the names of the columns of a table, and its rows
pub record Listed : Type 0 where
  pub columns : List Name
  pub rows : List Cells

-- a table that is not there has no columns and no rows
abbrev pub no_table : Listed
no_table = record { columns = []; rows = [] }

-- the names of the columns of a table
abbrev pub columns_of : TableShape → List Name
columns_of t = map (λ c. c.name) t.columns

-- the table with a name among those of a catalog, whose rows stand in the same order
abbrev pub table_among : Name → List TableShape → List (List Cells) → Option Listed
table_among name (t ∷ ts) (rows ∷ more) = if bytes_eq t.name name then Some (record { columns = columns_of t; rows = rows }) else table_among name ts more
table_among name _ _ = None

abbrev pub catalog_of : Tables → Catalog
catalog_of tables = tables.catalog

abbrev pub rows_of_tables : Tables → List (List Cells)
rows_of_tables tables = tables.rows

abbrev pub table_of : Name → Tables → Option Listed
table_of name tables = table_among name tables.catalog.tables tables.rows

abbrev pub or_no_table : Option Listed → Listed
or_no_table (Some t) = t
or_no_table None = no_table

-- the one column of an array's elements
abbrev pub element_columns : List Name
element_columns = codes "c1" ∷ []

-- a look for a table tells what is there
abbrev pub IsTable : Option Table → Option Listed → Type 0
IsTable None found = found ≡ None
IsTable (Some t) found = found ≡ Some (record { columns = columns_of t.shape.now; rows = t.rows.now })

-- a look for rows tells those of the table
abbrev pub AreRows : Option (Bor (List Cells)) → Option Listed → Type 0
AreRows None found = found ≡ None
AreRows (Some rows) found = IfSome found (λ t. t.rows ≡ rows.now) × (IsSome found)
