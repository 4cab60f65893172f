-- What the parts of the engine give.
use Rattle.std.specs.Prelude.{ℕ, Bool, List, [], ◌∷◌, map, Option, if◌then◌else◌}
use Rattle.ev_value.specs.Item.{bind, one, all_of}
use Rattle.ev_value.specs.declared.item.Item.{Item}
use Rattle.ev_value.specs.declared.item.Item.TheVariants as item
use Rattle.ev_list.specs.Cut.{section}
use Rattle.ev_list.specs.Order.{in_order, keyless}
use Rattle.ev_list.specs.declared.order.Keyed.{Keyed}
use Rattle.sql_ast.specs.declared.select.Body.{Body}
use Rattle.sql_ast.specs.declared.select.Column.{Column}
use Rattle.sql_ast.specs.declared.select.Key.{Key}
use Rattle.sql_table.specs.declared.cell.Cell.{Cell, Null}
use Rattle.sql_table.specs.declared.tables.Tables.{Tables}
use Rattle.sql_table.specs.Names.{Name, Cells, Scope, World, table_of, or_no_table}
use Rattle.sql_table.specs.Meaning.{Clauses, counted, for_value, each_under, once, arranged}
use Rattle.sql_table.specs.Forms.{bound_of, cells_of, clauses_of, values_of, turns_of, truth_of}
use Rattle.sql_exec.specs.declared.arrange.Clauses as declared
use Rattle.sql_exec.specs.declared.engine.Engine.{Engine}
use Rattle.sql_exec.specs.declared.turn.Turn.{Turn}

-- what the engine runs over
abbrev pub world_of : Engine → World
world_of engine = record { tables = engine.tables.now; args = engine.args.now }

-- a null for each column
abbrev pub nulls : List Name → Cells
nulls columns = map (λ name. Null) columns

-- a cell as a row
abbrev pub cell_row : Cell → Item Cells
cell_row c = item.Value (c ∷ [])

-- a row without its keys, or the fault in its place
abbrev pub keyless_item : Item (Keyed Cells) → Item Cells
keyless_item (item.Value row) = item.Value row.value
keyless_item (item.Fault e) = item.Fault e

-- the scopes of the rows of a table
abbrev pub table_turns : Tables → Name → Name → Scope → List (Item Scope)
table_turns tables name alias r = let t = or_no_table (table_of name tables) in each_under alias t.columns r (all_of t.rows)

abbrev pub clauses_in : declared.Clauses → Clauses
clauses_in c = record { is_distinct = c.is_distinct; orders = c.orders; has_offset = c.has_offset; has_limit = c.has_limit }

-- rows in order, each once where that is wanted, and cut
abbrev pub put_in_order : Clauses → Option ℕ → Option ℕ → List (Keyed Cells) → List (Item Cells)
put_in_order s offset limit rows = all_of (section offset limit (once s.is_distinct (keyless (in_order s.orders rows))))

-- the first fault of OFFSET and LIMIT is the whole list
abbrev pub limited : Clauses → Item (Option ℕ) → Item (Option ℕ) → List (Item (Keyed Cells)) → List (Item Cells)
limited s offset limit rows = for_value offset (λ o. for_value limit (λ l. arranged s o l rows))

-- a turn where its condition is true
abbrev pub kept : Item Bool → Scope → List (Item Scope)
kept condition turn = for_value condition (λ true_there. if true_there then one turn else [])

module _ (w : World) where
  abbrev pub kept_turn : Body → Scope → List (Item Scope)
  kept_turn body turn = kept (truth_of w body.condition turn) turn

  -- a turn with the cells of its columns
  abbrev pub row_turn : List Column → Scope → List (Item Turn)
  row_turn columns turn = for_value (cells_of w columns turn) (λ cs. one (record { scope = turn; row = cs }))

  -- a row with its keys
  abbrev pub keyed_turn : List Key → Turn → List (Item (Keyed Cells))
  keyed_turn keys turn = for_value (values_of w keys turn.scope) (λ ks. one (record { keys = ks; value = turn.row }))

  -- the turns of FROM where WHERE is true
  abbrev pub kept_turns : Body → Scope → List (Item Scope)
  kept_turns body r = bind (turns_of w body.from r) (kept_turn body)

  -- what the clauses behind WHERE make of rows
  abbrev pub arranged_rows : Bool → Body → List (Item Turn) → Scope → List (Item Cells)
  arranged_rows is_distinct body rows r = limited (clauses_of is_distinct body) (counted (bound_of w body.offset r)) (counted (bound_of w body.limit r)) (bind rows (keyed_turn body.keys))
