use Rattle.std.proofs.Common.{◌≡◌, ◌++◌, drop}
use Rattle.ev_value.specs.Item.{bind}
use Rattle.sql_table.specs.Forms.{cells_of_all, cells_of, values_of, turns_of, rows_of}
use Rattle.sql_table.specs.Meaning.{turns_of_item}
use Rattle.sql_exec.specs.Engine.{world_of, kept_turn, row_turn, keyed_turn}
use Rattle.sql_exec.proofs.Lists.{after}
use Rattle.sql_exec.proofs.engine.Engine.+run.Given as goal

abbrev pub invariant-cells-loop-expr : goal.invariant-cells-loop-expr
invariant-cells-loop-expr l = after l.cells (cells_of_all (world_of l.self) (drop l.expr-index l.exprs) l.scope) ≡ cells_of_all (world_of l.self) l.exprs l.scope

abbrev pub invariant-columns-loop-column : goal.invariant-columns-loop-column
invariant-columns-loop-column l = after l.cells (cells_of (world_of l.self) (drop l.column-index l.columns) l.scope) ≡ cells_of (world_of l.self) l.columns l.scope

abbrev pub invariant-keys-loop-key : goal.invariant-keys-loop-key
invariant-keys-loop-key l = after l.values (values_of (world_of l.self) (drop l.key-index l.keys) l.scope) ≡ values_of (world_of l.self) l.keys l.scope

abbrev pub invariant-extended-loop-turn : goal.invariant-extended-loop-turn
invariant-extended-loop-turn l = l.all ++ bind (drop l.turn-index l.turns) (turns_of_item (world_of l.self) l.item) ≡ bind l.turns (turns_of_item (world_of l.self) l.item)

abbrev pub invariant-kept-loop-turn : goal.invariant-kept-loop-turn
invariant-kept-loop-turn l = l.all ++ bind (drop l.turn-index l.turns) (kept_turn (world_of l.self) l.body) ≡ bind l.turns (kept_turn (world_of l.self) l.body)

abbrev pub invariant-with_cells-loop-turn : goal.invariant-with_cells-loop-turn
invariant-with_cells-loop-turn l = l.all ++ bind (drop l.turn-index l.turns) (row_turn (world_of l.self) l.columns) ≡ bind l.turns (row_turn (world_of l.self) l.columns)

abbrev pub invariant-with_keys-loop-turn : goal.invariant-with_keys-loop-turn
invariant-with_keys-loop-turn l = l.all ++ bind (drop l.turn-index l.rows) (keyed_turn (world_of l.self) l.keys) ≡ bind l.rows (keyed_turn (world_of l.self) l.keys)

abbrev pub invariant-rows-loop-core : goal.invariant-rows-loop-core
invariant-rows-loop-core l = l.rows ++ rows_of (world_of l.self) (drop l.core-index l.cores) l.scope ≡ rows_of (world_of l.self) l.cores l.scope

abbrev pub invariant-turns-loop-item : goal.invariant-turns-loop-item
invariant-turns-loop-item l = bind l.turns (turns_of (world_of l.self) (drop l.item-index l.items)) ≡ turns_of (world_of l.self) l.items l.scope
