use Rattle.std.proofs.Common.{drop, ap, ◌∙◌}
use Rattle.sql_check.specs.Frames.{entries}
use Rattle.sql_check.specs.Names.{names_in, names_in_core}
use Rattle.sql_check.proofs.NameForms.{no_names, of_int, of_text, of_bool, of_uuid, of_null, of_arg, of_all, of_distinct, core_names}
use Rattle.sql_check.proofs.names.Names.+names.Goals as goal

pub expr-returns-in-Int : goal.expr-returns-in-Int
expr-returns-in-Int t c =
    no_names c.args.found.now _ (ap (λ e. names_in c.args.self.now.catalog.now e c.args.places.now (entries c.args.scope.now)) c.in-Int.is ∙ of_int c.args.self.now.catalog.now c.args.places.now (entries c.args.scope.now) c.in-Int.field-0)

pub expr-returns-in-Text : goal.expr-returns-in-Text
expr-returns-in-Text t c =
    no_names c.args.found.now _ (ap (λ e. names_in c.args.self.now.catalog.now e c.args.places.now (entries c.args.scope.now)) c.in-Text.is ∙ of_text c.args.self.now.catalog.now c.args.places.now (entries c.args.scope.now) c.in-Text.field-0)

pub expr-returns-in-Bool : goal.expr-returns-in-Bool
expr-returns-in-Bool t c =
    no_names c.args.found.now _ (ap (λ e. names_in c.args.self.now.catalog.now e c.args.places.now (entries c.args.scope.now)) c.in-Bool.is ∙ of_bool c.args.self.now.catalog.now c.args.places.now (entries c.args.scope.now) c.in-Bool.field-0)

pub expr-returns-in-Uuid : goal.expr-returns-in-Uuid
expr-returns-in-Uuid t c =
    no_names c.args.found.now _ (ap (λ e. names_in c.args.self.now.catalog.now e c.args.places.now (entries c.args.scope.now)) c.in-Uuid.is ∙ of_uuid c.args.self.now.catalog.now c.args.places.now (entries c.args.scope.now) c.in-Uuid.field-0)

pub expr-returns-in-Null : goal.expr-returns-in-Null
expr-returns-in-Null t c =
    no_names c.args.found.now _ (ap (λ e. names_in c.args.self.now.catalog.now e c.args.places.now (entries c.args.scope.now)) c.in-Null.is ∙ of_null c.args.self.now.catalog.now c.args.places.now (entries c.args.scope.now) c.in-Null.field-0)

pub expr-returns-in-Arg : goal.expr-returns-in-Arg
expr-returns-in-Arg t c =
    no_names c.args.found.now _ (ap (λ e. names_in c.args.self.now.catalog.now e c.args.places.now (entries c.args.scope.now)) c.in-Arg.is ∙ of_arg c.args.self.now.catalog.now c.args.places.now (entries c.args.scope.now) c.in-Arg.field-0 c.in-Arg.field-1)

pub core-returns-in_ok-columns-in-All : goal.core-returns-in_ok-columns-in-All
core-returns-in_ok-columns-in-All t c =
    let catalog = c.args.self.now.catalog.now in
    let d = entries c.args.scope.now in
    let ps = c.args.places.now in
    core_names catalog d ps c.body.result c.args.found.now c.columns.new.found c.body.new.found c.args.core.now c.in-All.columns c.as_slice.result.now c.in-All.body c.inner.result.now c.beyond.result.now
    c.in_ok-columns-in-All.ensures c.body.ensures
    (ap (λ z. names_in_core catalog z ps d) c.in-All.is ∙ of_all catalog ps d c.in-All.columns c.in-All.body)
    c.as_slice.ensures c.inner.ensures (c.beyond.ensures ∙ (λ i. drop (c.len.ensures i) (c.inner-in-All.ensures i)))

pub core-returns-in_ok-columns-in-Distinct : goal.core-returns-in_ok-columns-in-Distinct
core-returns-in_ok-columns-in-Distinct t c =
    let catalog = c.args.self.now.catalog.now in
    let d = entries c.args.scope.now in
    let ps = c.args.places.now in
    core_names catalog d ps c.body-in-Distinct.result c.args.found.now c.columns-in-Distinct.new.found c.body-in-Distinct.new.found c.args.core.now c.in-Distinct.columns c.as_slice-in-Distinct.result.now c.in-Distinct.body c.inner-in-Distinct.result.now c.beyond-in-Distinct.result.now
    c.in_ok-columns-in-Distinct.ensures c.body-in-Distinct.ensures
    (ap (λ z. names_in_core catalog z ps d) c.in-Distinct.is ∙ of_distinct catalog ps d c.in-Distinct.columns c.in-Distinct.body)
    c.as_slice-in-Distinct.ensures c.inner-in-Distinct.ensures (c.beyond-in-Distinct.ensures ∙ (λ i. drop (c.len-in-Distinct.ensures i) (c.inner-in-Distinct-2.ensures i)))
