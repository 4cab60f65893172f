use Rattle.std.proofs.Common.{◌≡◌, ◌++◌, drop}
use Rattle.sql_ast.specs.ParamLists.{args_in_columns, args_in_exprs, args_in_items, args_in_keys}
use Rattle.sql_ast.specs.Params.{args_of_cores_list}
use Rattle.sql_ast.proofs.args.+args.Given as goal

abbrev pub invariant-add_exprs-loop-expr : goal.invariant-add_exprs-loop-expr
invariant-add_exprs-loop-expr l = l.all ++ args_in_exprs (drop l.expr-index l.exprs) ≡ l.fn.all ++ args_in_exprs l.exprs

abbrev pub invariant-add_cores-loop-core : goal.invariant-add_cores-loop-core
invariant-add_cores-loop-core l = l.all ++ args_of_cores_list (drop l.core-index l.cores) ≡ l.fn.all ++ args_of_cores_list l.cores

abbrev pub invariant-add_columns-loop-column : goal.invariant-add_columns-loop-column
invariant-add_columns-loop-column l = l.all ++ args_in_columns (drop l.column-index l.columns) ≡ l.fn.all ++ args_in_columns l.columns

abbrev pub invariant-add_items-loop-item : goal.invariant-add_items-loop-item
invariant-add_items-loop-item l = l.all ++ args_in_items (drop l.item-index l.items) ≡ l.fn.all ++ args_in_items l.items

abbrev pub invariant-add_keys-loop-key : goal.invariant-add_keys-loop-key
invariant-add_keys-loop-key l = l.all ++ args_in_keys (drop l.key-index l.keys) ≡ l.fn.all ++ args_in_keys l.keys
