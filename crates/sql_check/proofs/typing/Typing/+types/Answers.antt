use Rattle.std.proofs.Common.{◌≡◌, ◌+◌, ◌∷◌, drop, length, sym, ap, ◌∙◌}
use Rattle.std.proofs.lemmas.List.{drop_more}
use Rattle.sql_check.specs.SortFrames.{sorts}
use Rattle.sql_check.specs.Types.{types_in, types_in_core, types_in_item}
use Rattle.sql_check.proofs.FaultForms.{none_added, of_int, of_text, of_bool, of_uuid, of_null, of_column, of_global, of_table, of_all, of_distinct, core_faults, item_more}
use Rattle.sql_check.proofs.ScopeForms.{known_more}
use Rattle.sql_check.specs.Walk.{inner}
use Rattle.sql_check.proofs.typing.Typing.+types.Goals as goal

pub expr-returns-in-Int : goal.expr-returns-in-Int
expr-returns-in-Int t c =
    none_added c.args.found.now _ (ap (λ e. types_in c.args.self.now.catalog.now c.args.self.now.params.now e c.args.places.now (sorts c.args.scope.now)) c.in-Int.is ∙ of_int c.args.self.now.catalog.now c.args.self.now.params.now c.args.places.now (sorts c.args.scope.now) c.in-Int.field-0)

pub expr-returns-in-Text : goal.expr-returns-in-Text
expr-returns-in-Text t c =
    none_added c.args.found.now _ (ap (λ e. types_in c.args.self.now.catalog.now c.args.self.now.params.now e c.args.places.now (sorts c.args.scope.now)) c.in-Text.is ∙ of_text c.args.self.now.catalog.now c.args.self.now.params.now c.args.places.now (sorts c.args.scope.now) c.in-Text.field-0)

pub expr-returns-in-Bool : goal.expr-returns-in-Bool
expr-returns-in-Bool t c =
    none_added c.args.found.now _ (ap (λ e. types_in c.args.self.now.catalog.now c.args.self.now.params.now e c.args.places.now (sorts c.args.scope.now)) c.in-Bool.is ∙ of_bool c.args.self.now.catalog.now c.args.self.now.params.now c.args.places.now (sorts c.args.scope.now) c.in-Bool.field-0)

pub expr-returns-in-Uuid : goal.expr-returns-in-Uuid
expr-returns-in-Uuid t c =
    none_added c.args.found.now _ (ap (λ e. types_in c.args.self.now.catalog.now c.args.self.now.params.now e c.args.places.now (sorts c.args.scope.now)) c.in-Uuid.is ∙ of_uuid c.args.self.now.catalog.now c.args.self.now.params.now c.args.places.now (sorts c.args.scope.now) c.in-Uuid.field-0)

pub expr-returns-in-Null : goal.expr-returns-in-Null
expr-returns-in-Null t c =
    none_added c.args.found.now _ (ap (λ e. types_in c.args.self.now.catalog.now c.args.self.now.params.now e c.args.places.now (sorts c.args.scope.now)) c.in-Null.is ∙ of_null c.args.self.now.catalog.now c.args.self.now.params.now c.args.places.now (sorts c.args.scope.now) c.in-Null.field-0)

pub expr-returns-in-Column : goal.expr-returns-in-Column
expr-returns-in-Column t c =
    none_added c.args.found.now _ (ap (λ e. types_in c.args.self.now.catalog.now c.args.self.now.params.now e c.args.places.now (sorts c.args.scope.now)) c.in-Column.is ∙ of_column c.args.self.now.catalog.now c.args.self.now.params.now c.args.places.now (sorts c.args.scope.now) c.in-Column.field-0 c.in-Column.field-1)

pub expr-returns-in-Global : goal.expr-returns-in-Global
expr-returns-in-Global t c =
    none_added c.args.found.now _ (ap (λ e. types_in c.args.self.now.catalog.now c.args.self.now.params.now e c.args.places.now (sorts c.args.scope.now)) c.in-Global.is ∙ of_global c.args.self.now.catalog.now c.args.self.now.params.now c.args.places.now (sorts c.args.scope.now) c.in-Global.field-0)

pub item_faults-returns-in-Table : goal.item_faults-returns-in-Table
item_faults-returns-in-Table t c =
    none_added c.args.found.now _ (ap (λ i. types_in_item c.args.self.now.catalog.now c.args.self.now.params.now i c.args.places.now (sorts c.args.scope.now)) c.in-Table.is ∙ of_table c.args.self.now.catalog.now c.args.self.now.params.now c.args.places.now (sorts c.args.scope.now) c.in-Table.field-0 c.in-Table.field-1)

pub faults-returns-in_ok-given_faults-in-All : goal.faults-returns-in_ok-given_faults-in-All
faults-returns-in_ok-given_faults-in-All t c =
    let catalog = c.args.self.now.catalog.now in
    let params = c.args.self.now.params.now in
    let d = sorts c.args.scope.now in
    let ps = c.args.places.now in
    let behind : c.beyond-behind.result.now ≡ drop (length c.in-All.columns) (inner ps) = c.beyond-behind.ensures ∙ (λ i. drop (c.len.ensures i) (c.inner.ensures i)) in
    let after : c.beyond.result.now ≡ drop (length c.in-All.body.from) (drop (length c.in-All.columns) (inner ps)) = c.beyond.ensures ∙ (λ i. drop (c.len-in-All.ensures i) (behind i)) in
    core_faults catalog params d ps c.rows.result c.args.found.now c.items.new.found c.given_faults.new.found c.rows.new.found
    c.args.core.now c.in-All.columns c.as_slice-in-All.result.now c.in-All.body c.as_slice.result.now c.in_ok-known-in-All.known c.as_slice-in-All-2.result.now c.as_slice-in-All-3.result.now c.inner-in-All.result.now c.beyond-behind.result.now c.beyond.result.now
    c.in_ok-known-in-All.ensures.added c.in_ok-known-in-All.ensures.given c.in_ok-given_faults-in-All.ensures c.rows.ensures
    (ap (λ z. types_in_core catalog params z ps d) c.in-All.is ∙ of_all catalog params ps d c.in-All.columns c.in-All.body)
    c.as_slice.ensures c.as_slice-in-All.ensures c.as_slice-in-All-2.ensures c.as_slice-in-All-3.ensures c.inner-in-All.ensures behind after

pub faults-returns-in_ok-given_faults-in-Distinct : goal.faults-returns-in_ok-given_faults-in-Distinct
faults-returns-in_ok-given_faults-in-Distinct t c =
    let catalog = c.args.self.now.catalog.now in
    let params = c.args.self.now.params.now in
    let d = sorts c.args.scope.now in
    let ps = c.args.places.now in
    let behind : c.beyond-behind-in-Distinct.result.now ≡ drop (length c.in-Distinct.columns) (inner ps) = c.beyond-behind-in-Distinct.ensures ∙ (λ i. drop (c.len-in-Distinct.ensures i) (c.inner-in-Distinct.ensures i)) in
    let after : c.beyond-in-Distinct.result.now ≡ drop (length c.in-Distinct.body.from) (drop (length c.in-Distinct.columns) (inner ps)) = c.beyond-in-Distinct.ensures ∙ (λ i. drop (c.len-in-Distinct-2.ensures i) (behind i)) in
    core_faults catalog params d ps c.rows-in-Distinct.result c.args.found.now c.items-in-Distinct.new.found c.given_faults-in-Distinct.new.found c.rows-in-Distinct.new.found
    c.args.core.now c.in-Distinct.columns c.as_slice-in-Distinct-2.result.now c.in-Distinct.body c.as_slice-in-Distinct.result.now c.in_ok-known-in-Distinct.known c.as_slice-in-Distinct-3.result.now c.as_slice-in-Distinct-4.result.now c.inner-in-Distinct-2.result.now c.beyond-behind-in-Distinct.result.now c.beyond-in-Distinct.result.now
    c.in_ok-known-in-Distinct.ensures.added c.in_ok-known-in-Distinct.ensures.given c.in_ok-given_faults-in-Distinct.ensures c.rows-in-Distinct.ensures
    (ap (λ z. types_in_core catalog params z ps d) c.in-Distinct.is ∙ of_distinct catalog params ps d c.in-Distinct.columns c.in-Distinct.body)
    c.as_slice-in-Distinct.ensures c.as_slice-in-Distinct-2.ensures c.as_slice-in-Distinct-3.ensures c.as_slice-in-Distinct-4.ensures c.inner-in-Distinct-2.ensures behind after

pub items-loop-item-preserved : goal.items-loop-item-preserved
items-loop-item-preserved t c =
    let catalog = c.args.self.now.catalog.now in
    let params = c.args.self.now.params.now in
    let d = sorts c.args.scope.now in
    let items = c.args.items.now in
    let at = c.loop-item.item-index in
    let item = c.item-item.result in
    let here : drop at items ≡ item ∷ drop (at + 1) items = drop_more items at item c.loop-item-test.true ∙ ap (λ x. x ∷ drop (at + 1) items) (sym c.item-item.is) in (
      known_more catalog params item c.loop-item.known c.as_slice-in-loop-item.result.now c.push.new.self c.in_ok-entry.entry d (drop at items) (drop (at + 1) items) _ here c.loop-item.invariant.0 c.as_slice-in-loop-item.ensures c.in_ok-entry.ensures c.in_ok-push.ensures.ok,
      item_more catalog params item c.loop-item.known c.as_slice-in-loop-item.result.now c.as_slice.result.now c.push.new.self c.in_ok-entry.entry d (drop at items) (drop (at + 1) items) c.loop-item.left.now c.rest-left.result.now c.loop-item.found c.item_behind.new.found _ here c.loop-item.invariant.1 c.in_ok-item_behind.ensures c.as_slice.ensures c.as_slice-in-loop-item.ensures c.in_ok-entry.ensures c.in_ok-push.ensures.ok c.rest-left.ensures,
    )
