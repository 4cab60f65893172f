use Rattle.std.proofs.Common.{◌≡◌, ◌++◌, drop}
use Rattle.sql_check.specs.SortFrames.{sorts, with_known}
use Rattle.sql_check.specs.TypeLists as lists
use Rattle.sql_check.proofs.typing.Typing.+typing.Given as goal

abbrev pub invariant-verdicts-loop-expr : goal.invariant-verdicts-loop-expr
invariant-verdicts-loop-expr l = lists.behind_types l.all (lists.verdicts_of l.self.catalog.now l.self.params.now (drop l.expr-index l.exprs) (sorts l.scope)) ≡ lists.verdicts_of l.self.catalog.now l.self.params.now l.exprs (sorts l.scope)

abbrev pub invariant-columns-loop-column : goal.invariant-columns-loop-column
invariant-columns-loop-column l = l.given ++ lists.sorts_of_columns l.self.catalog.now l.self.params.now (drop l.column-index l.columns) (sorts l.scope) ≡ lists.sorts_of_columns l.self.catalog.now l.self.params.now l.columns (sorts l.scope)

abbrev pub invariant-known-loop-item : goal.invariant-known-loop-item
invariant-known-loop-item l = lists.within_items l.self.catalog.now l.self.params.now (drop l.item-index l.items) (with_known l.known (sorts l.scope)) ≡ lists.within_items l.self.catalog.now l.self.params.now l.items (sorts l.scope)
