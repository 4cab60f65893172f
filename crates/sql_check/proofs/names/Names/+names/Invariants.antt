use Rattle.std.proofs.Common.{◌≡◌, ◌++◌, drop, take, []}
use Rattle.sql_check.specs.Frames.{entries}
use Rattle.sql_check.specs.NameLists as lists
use Rattle.sql_check.specs.Names as names
use Rattle.sql_check.proofs.names.Names.+names.Given as goal

abbrev pub invariant-exprs-loop-expr : goal.invariant-exprs-loop-expr
invariant-exprs-loop-expr l = l.found ++ lists.names_in_exprs l.self.catalog.now (drop l.expr-index l.exprs) l.left (entries l.scope) ≡ l.fn.found ++ lists.names_in_exprs l.self.catalog.now l.exprs l.places (entries l.scope)

abbrev pub invariant-cores-loop-core : goal.invariant-cores-loop-core
invariant-cores-loop-core l = l.found ++ names.names_in_list l.self.catalog.now (drop l.core-index l.cores) l.left (entries l.scope) ≡ l.fn.found ++ names.names_in_list l.self.catalog.now l.cores l.places (entries l.scope)

abbrev pub invariant-keys-loop-key : goal.invariant-keys-loop-key
invariant-keys-loop-key l = l.found ++ lists.names_in_key_list l.self.catalog.now (drop l.key-index l.keys) l.left (entries l.scope) ≡ l.fn.found ++ lists.names_in_key_list l.self.catalog.now l.keys l.places (entries l.scope)

abbrev pub invariant-column_list-loop-i : goal.invariant-column_list-loop-i
invariant-column_list-loop-i l = l.found ++ lists.names_in_column_list l.self.catalog.now (drop l.i l.columns) (lists.column_names (take l.i l.columns)) l.left (entries l.scope) ≡ l.fn.found ++ lists.names_in_column_list l.self.catalog.now l.columns [] l.places (entries l.scope)

abbrev pub invariant-items-loop-i : goal.invariant-items-loop-i
invariant-items-loop-i l = l.found ++ lists.names_in_item_list l.self.catalog.now (drop l.i l.items) (take l.i l.items) l.left (entries l.scope) ≡ l.fn.found ++ lists.names_in_item_list l.self.catalog.now l.items [] l.places (entries l.scope)
