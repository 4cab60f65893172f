use Rattle.std.proofs.Common.{◌≡◌, ◌++◌, drop}
use Rattle.sql_check.specs.SortFrames.{sorts, with_known}
use Rattle.sql_check.specs.TypeLists as lists
use Rattle.sql_check.specs.Types as types
use Rattle.sql_check.proofs.typing.Typing.+types.Given as goal

abbrev pub invariant-exprs-loop-expr : goal.invariant-exprs-loop-expr
invariant-exprs-loop-expr l = l.found ++ lists.types_in_exprs l.self.catalog.now l.self.params.now (drop l.expr-index l.exprs) l.left (sorts l.scope) ≡ l.fn.found ++ lists.types_in_exprs l.self.catalog.now l.self.params.now l.exprs l.places (sorts l.scope)

abbrev pub invariant-further-loop-core : goal.invariant-further-loop-core
invariant-further-loop-core l = l.found ++ types.types_in_further_list l.self.catalog.now l.self.params.now (drop l.core-index l.cores) l.first l.left (sorts l.scope) ≡ l.fn.found ++ types.types_in_further_list l.self.catalog.now l.self.params.now l.cores l.first l.places (sorts l.scope)

abbrev pub invariant-columns_faults-loop-column : goal.invariant-columns_faults-loop-column
invariant-columns_faults-loop-column l = l.found ++ lists.types_in_column_list l.self.catalog.now l.self.params.now (drop l.column-index l.columns) l.left (sorts l.scope) ≡ l.fn.found ++ lists.types_in_column_list l.self.catalog.now l.self.params.now l.columns l.places (sorts l.scope)

abbrev pub invariant-keys-loop-key : goal.invariant-keys-loop-key
invariant-keys-loop-key l = l.found ++ lists.types_in_key_list l.self.catalog.now l.self.params.now (drop l.key-index l.keys) l.left (sorts l.scope) ≡ l.fn.found ++ lists.types_in_key_list l.self.catalog.now l.self.params.now l.keys l.places (sorts l.scope)

abbrev pub invariant-items-loop-item : goal.invariant-items-loop-item
invariant-items-loop-item l =
    (lists.within_items l.self.catalog.now l.self.params.now (drop l.item-index l.items) (with_known l.known (sorts l.scope)) ≡ lists.within_items l.self.catalog.now l.self.params.now l.items (sorts l.scope)) ×
    (l.found ++ lists.types_in_item_list l.self.catalog.now l.self.params.now (drop l.item-index l.items) l.left (with_known l.known (sorts l.scope)) ≡ l.fn.found ++ lists.types_in_item_list l.self.catalog.now l.self.params.now l.items l.places (sorts l.scope))
