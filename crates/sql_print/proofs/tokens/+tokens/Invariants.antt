use Rattle.std.proofs.Common.{◌≡◌, ◌++◌, true, drop}
use Rattle.sql_print.specs.Printed.{tokens_of_expr, tokens_of_key}
use Rattle.sql_print.specs.Lists.{listed, listed_cores, listed_items, tokens_of_column}
use Rattle.sql_print.proofs.tokens.+tokens.Given as goal

abbrev pub invariant-add_exprs-loop-expr : goal.invariant-add_exprs-loop-expr
invariant-add_exprs-loop-expr l = l.all ++ listed tokens_of_expr l.first (drop l.expr-index l.exprs) ≡ l.fn.all ++ listed tokens_of_expr true l.exprs

abbrev pub invariant-add_cores-loop-core : goal.invariant-add_cores-loop-core
invariant-add_cores-loop-core l = l.all ++ listed_cores l.first (drop l.core-index l.cores) ≡ l.fn.all ++ listed_cores true l.cores

abbrev pub invariant-add_columns-loop-column : goal.invariant-add_columns-loop-column
invariant-add_columns-loop-column l = l.all ++ listed tokens_of_column l.first (drop l.column-index l.columns) ≡ l.fn.all ++ listed tokens_of_column true l.columns

abbrev pub invariant-add_items-loop-item : goal.invariant-add_items-loop-item
invariant-add_items-loop-item l = l.all ++ listed_items l.first (drop l.item-index l.items) ≡ l.fn.all ++ listed_items true l.items

abbrev pub invariant-add_key_list-loop-key : goal.invariant-add_key_list-loop-key
invariant-add_key_list-loop-key l = l.all ++ listed tokens_of_key l.first (drop l.key-index l.keys) ≡ l.fn.all ++ listed tokens_of_key true l.keys
