use Rattle.std.proofs.Common.{rules, false, ◌+◌, [], ◌∷◌, ◌++◌, drop, map, sym, ap, ◌∙◌, arith}
use Rattle.std.proofs.lemmas.Grind.{common_steps}
use Rattle.std.proofs.lemmas.List.{map-append}
use Rattle.plan.specs.Plan.{tells}
use Rattle.plan.specs.Ruled.{each_with, in_turn}
use Rattle.plan.proofs.Folds.{turn, step, finish, goes, comes, ends}
use Rattle.ast.specs.Expression.{span_of}
use Rattle.ast.specs.declared.name.Span.{Span}
use Rattle.eql_naming.specs.Around.{entries, On}
use Rattle.eql_naming.specs.Forms.{joined}
use Rattle.eql_resolve.specs.Resolving.{resolve, scoped, key_of, element_of, alias_of, elements_of}
use Rattle.eql_resolve.proofs.Parts.{joined_told, many_told, narrow_back, narrow_other, nested_told, nested_elements_refused, nested_clauses_refused, shaped_told, select_told, select_refused, for_told, for_refused}
use Rattle.eql_resolve.proofs.resolving.Naming.+names.Goals as goal
use Rattle.eql_resolve.proofs.resolving.Naming.+names.Goals.{call-in_default-via-then-arguments-lt1, call-in_default-via-else-arguments-lt1+else-arguments-lt2}

pub all-loop-x-init : goal.all-loop-x-init
all-loop-x-init t c =
    ap (λ d. tells (each_with (λ done x. resolve c.args.self.now.index.now c.args.self.now.parameters x c.args.in_result (entries c.args.around.now)) d c.args.all.now c.args.fresh.now)) c.new-done.ensures

pub all-returns-in_err-y : goal.all-returns-in_err-y
all-returns-in_err-y t c =
    let e = step (λ done x. resolve c.args.self.now.index.now c.args.self.now.parameters x c.args.in_result (entries c.args.around.now)) c.loop-x.done c.args.all.now c.loop-x.x-index c.loop-x.fresh _ c.x-item.result c.loop-x-test.true c.x-item.is c.loop-x.invariant in
    first_of (search rules, grind (arith, common_steps))

pub all-loop-x-preserved : goal.all-loop-x-preserved
all-loop-x-preserved t c =
    ap (λ d. tells (each_with (λ done x. resolve c.args.self.now.index.now c.args.self.now.parameters x c.args.in_result (entries c.args.around.now)) d (drop (c.loop-x.x-index + 1) c.args.all.now) c.resolve.new.fresh)) c.in_ok-push.ensures.ok
    ∙ turn (λ done x. resolve c.args.self.now.index.now c.args.self.now.parameters x c.args.in_result (entries c.args.around.now)) c.loop-x.done c.args.all.now c.loop-x.x-index c.loop-x.fresh _ c.x-item.result c.in_ok-y.y c.resolve.new.fresh c.loop-x-test.true c.x-item.is c.loop-x.invariant c.in_ok-y.ensures

pub all-returns : goal.all-returns
all-returns t c =
    finish (λ done x. resolve c.args.self.now.index.now c.args.self.now.parameters x c.args.in_result (entries c.args.around.now)) c.loop-x.done c.args.all.now c.loop-x.x-index c.loop-x.fresh _ c.loop-x-test.false c.loop-x.invariant

pub scopes-loop-x-init : goal.scopes-loop-x-init
scopes-loop-x-init t c =
    ap (λ d. tells (each_with (λ done x. scoped (span_of x).start (resolve c.args.self.now.index.now c.args.self.now.parameters x false (entries c.args.around.now))) d c.args.all.now c.args.fresh.now)) c.new-done.ensures

pub scopes-returns-in_err-y : goal.scopes-returns-in_err-y
scopes-returns-in_err-y t c =
    let e = step (λ done x. scoped (span_of x).start (resolve c.args.self.now.index.now c.args.self.now.parameters x false (entries c.args.around.now))) c.loop-x.done c.args.all.now c.loop-x.x-index c.loop-x.fresh _ c.x-item.result c.loop-x-test.true c.x-item.is c.loop-x.invariant in
    first_of (search rules, grind (arith, common_steps))

pub scopes-loop-x-preserved : goal.scopes-loop-x-preserved
scopes-loop-x-preserved t c =
    ap (λ d. tells (each_with (λ done x. scoped (span_of x).start (resolve c.args.self.now.index.now c.args.self.now.parameters x false (entries c.args.around.now))) d (drop (c.loop-x.x-index + 1) c.args.all.now) c.scoped.new.fresh)) c.in_ok-push.ensures.ok
    ∙ turn (λ done x. scoped (span_of x).start (resolve c.args.self.now.index.now c.args.self.now.parameters x false (entries c.args.around.now))) c.loop-x.done c.args.all.now c.loop-x.x-index c.loop-x.fresh _ c.x-item.result c.in_ok-y.y c.scoped.new.fresh c.loop-x-test.true c.x-item.is c.loop-x.invariant c.in_ok-y.ensures

pub scopes-returns : goal.scopes-returns
scopes-returns t c =
    finish (λ done x. scoped (span_of x).start (resolve c.args.self.now.index.now c.args.self.now.parameters x false (entries c.args.around.now))) c.loop-x.done c.args.all.now c.loop-x.x-index c.loop-x.fresh _ c.loop-x-test.false c.loop-x.invariant

pub keys-loop-x-init : goal.keys-loop-x-init
keys-loop-x-init t c =
    ap (λ d. tells (each_with (λ done x. key_of c.args.self.now.index.now c.args.self.now.parameters x (entries c.args.around.now)) d c.args.all.now c.args.fresh.now)) c.new-done.ensures

pub keys-returns-in_err-y : goal.keys-returns-in_err-y
keys-returns-in_err-y t c =
    let e = step (λ done x. key_of c.args.self.now.index.now c.args.self.now.parameters x (entries c.args.around.now)) c.loop-x.done c.args.all.now c.loop-x.x-index c.loop-x.fresh _ c.x-item.result c.loop-x-test.true c.x-item.is c.loop-x.invariant in
    first_of (search rules, grind (arith, common_steps))

pub keys-loop-x-preserved : goal.keys-loop-x-preserved
keys-loop-x-preserved t c =
    ap (λ d. tells (each_with (λ done x. key_of c.args.self.now.index.now c.args.self.now.parameters x (entries c.args.around.now)) d (drop (c.loop-x.x-index + 1) c.args.all.now) c.key.new.fresh)) c.in_ok-push.ensures.ok
    ∙ turn (λ done x. key_of c.args.self.now.index.now c.args.self.now.parameters x (entries c.args.around.now)) c.loop-x.done c.args.all.now c.loop-x.x-index c.loop-x.fresh _ c.x-item.result c.in_ok-y.y c.key.new.fresh c.loop-x-test.true c.x-item.is c.loop-x.invariant c.in_ok-y.ensures

pub keys-returns : goal.keys-returns
keys-returns t c =
    finish (λ done x. key_of c.args.self.now.index.now c.args.self.now.parameters x (entries c.args.around.now)) c.loop-x.done c.args.all.now c.loop-x.x-index c.loop-x.fresh _ c.loop-x-test.false c.loop-x.invariant

pub elements-loop-x-init : goal.elements-loop-x-init
elements-loop-x-init t c = (
  c.no_elements-made.ensures.keys ∙ sym (ap (map (λ y. y.name)) c.no_elements-made.ensures.list),
  ap (λ d. tells (each_with (λ done x. element_of c.args.self.now.index.now c.args.self.now.parameters x (map (λ y. y.name) done) (entries c.args.around.now)) d c.args.all.now c.args.fresh.now)) c.no_elements-made.ensures.list,
)

pub elements-returns-in_err-y : goal.elements-returns-in_err-y
elements-returns-in_err-y t c =
    let e = step (λ done x. element_of c.args.self.now.index.now c.args.self.now.parameters x (map (λ y. y.name) done) (entries c.args.around.now)) c.loop-x.made.list c.args.all.now c.loop-x.x-index c.loop-x.fresh _ c.x-item.result c.loop-x-test.true c.x-item.is c.loop-x.invariant.1 in
    let k = sym c.loop-x.invariant.0 in
    first_of (search rules, grind (arith, common_steps))

pub elements-loop-x-preserved : goal.elements-loop-x-preserved
elements-loop-x-preserved t c =
    let m = c.loop-x.made in
    let e = c.in_ok-made.ensures in
    let inv = c.loop-x.invariant in (
      e.0 ∙ ap (λ k. k ++ c.in_ok-y.y.name ∷ []) inv.0 ∙ sym (map-append (λ y. y.name) m.list (c.in_ok-y.y ∷ [])) ∙ ap (map (λ y. y.name)) (sym e.1),
      ap (λ d. tells (each_with (λ done x. element_of c.args.self.now.index.now c.args.self.now.parameters x (map (λ y. y.name) done) (entries c.args.around.now)) d (drop (c.loop-x.x-index + 1) c.args.all.now) c.element.new.fresh)) e.1
          ∙ turn (λ done x. element_of c.args.self.now.index.now c.args.self.now.parameters x (map (λ y. y.name) done) (entries c.args.around.now)) m.list c.args.all.now c.loop-x.x-index c.loop-x.fresh _ c.x-item.result c.in_ok-y.y c.element.new.fresh c.loop-x-test.true c.x-item.is inv.1
          (ap (λ k. tells (element_of c.args.self.now.index.now c.args.self.now.parameters c.x-item.result k (entries c.args.around.now) c.loop-x.fresh)) (sym inv.0) ∙ c.in_ok-y.ensures),
    )

pub elements-returns : goal.elements-returns
elements-returns t c =
    finish (λ done x. element_of c.args.self.now.index.now c.args.self.now.parameters x (map (λ y. y.name) done) (entries c.args.around.now)) c.loop-x.made.list c.args.all.now c.loop-x.x-index c.loop-x.fresh _ c.loop-x-test.false c.loop-x.invariant.1

pub aliases-loop-x-init : goal.aliases-loop-x-init
aliases-loop-x-init t c =
    ap (λ d. tells (in_turn (alias_of c.args.self.now.index.now c.args.self.now.parameters (entries c.args.around.now)) d c.args.all.now c.args.fresh.now)) c.undefined-defined.ensures

pub aliases-returns-in_err-defined : goal.aliases-returns-in_err-defined
aliases-returns-in_err-defined t c =
    let e = comes (alias_of c.args.self.now.index.now c.args.self.now.parameters (entries c.args.around.now)) c.loop-x.defined c.args.all.now c.loop-x.x-index c.loop-x.fresh _ c.x-item.result c.loop-x-test.true c.x-item.is c.loop-x.invariant in
    first_of (search rules, grind (arith, common_steps))

pub aliases-loop-x-preserved : goal.aliases-loop-x-preserved
aliases-loop-x-preserved t c =
    goes (alias_of c.args.self.now.index.now c.args.self.now.parameters (entries c.args.around.now)) c.loop-x.defined c.args.all.now c.loop-x.x-index c.loop-x.fresh _ c.x-item.result c.in_ok-defined.defined c.alias.new.fresh c.loop-x-test.true c.x-item.is c.loop-x.invariant c.in_ok-defined.ensures

pub aliases-returns : goal.aliases-returns
aliases-returns t c =
    ends (alias_of c.args.self.now.index.now c.args.self.now.parameters (entries c.args.around.now)) c.loop-x.defined c.args.all.now c.loop-x.x-index c.loop-x.fresh _ c.loop-x-test.false c.loop-x.invariant

pub binary-returns-in-Some : goal.binary-returns-in-Some
binary-returns-in-Some t c =
    let f = c.args.form.now in
    let x = ap (λ z. tells (resolve c.args.self.now.index.now c.args.self.now.parameters z false (entries c.args.around.now) c.args.fresh.now)) (sym c.get.ensures) ∙ c.in_ok-x.ensures in
    let y = ap (λ z. tells (resolve c.args.self.now.index.now c.args.self.now.parameters z false (entries c.args.around.now) c.resolve.new.fresh)) (sym c.get-2.ensures) ∙ c.in_ok-y.ensures in
    let l = ap (λ (z : Span). z.start) (c.span-left.ensures ∙ ap span_of c.get-3.ensures) in
    let r = ap (λ (z : Span). z.start) (c.span-right.ensures ∙ ap span_of c.get-4.ensures) in
    let e = sym (c.in_ok-tree.ensures ∙ (λ i. joined c.args.start f.operator (l i) c.in_ok-x.x (r i) c.in_ok-y.y)) ∙ c.in-Some.is in
    joined_told c.args.self.now.index.now c.args.self.now.parameters (entries c.args.around.now) c.args.start f.operator f.span.start f.left f.right c.args.fresh.now c.resolve.new.fresh c.resolve-2.new.fresh c.in_ok-x.x c.in_ok-y.y c.in-Some.tree x y e

pub call-returns-in_default : goal.call-returns-in_default
call-returns-in_default t c = elim c.in_default.branch [
  | call-in_default-via-then-arguments-lt1 w ↦ many_told c.args.self.now.index.now c.args.self.now.parameters (entries c.args.around.now) c.args.start c.args.function.now c.args.arguments.now (λ e. grind (arith, common_steps)) c.args.fresh.now c.call_many.new.fresh c.call_many.result c.call_many.ensures
  | call-in_default-via-else-arguments-lt1+else-arguments-lt2 w ↦ many_told c.args.self.now.index.now c.args.self.now.parameters (entries c.args.around.now) c.args.start c.args.function.now c.args.arguments.now (λ e. grind (arith, common_steps)) c.args.fresh.now c.call_many.new.fresh c.call_many.result c.call_many.ensures
]

pub narrow-returns-in-BackLink : goal.narrow-returns-in-BackLink
narrow-returns-in-BackLink t c =
    narrow_back c.args.self.now.index.now c.args.self.now.parameters (entries c.args.around.now) c.args.base.now c.in-Postfix.inner c.in-Postfix.field-0 c.in-Postfix.postfix c.in-Postfix.is c.args.start c.args.place c.args.ty.now c.args.fresh.now
    c.in-BackLink.name c.get.result.now c.back_linked.result c.back_linked.new.fresh c.in-BackLink.is c.get.ensures c.back_linked.ensures

pub narrow-returns-in_default-step : goal.narrow-returns-in_default-step
narrow-returns-in_default-step t c =
    narrow_other c.args.self.now.index.now c.args.self.now.parameters (entries c.args.around.now) c.args.base.now c.in-Postfix.inner c.in-Postfix.field-0 c.in-Postfix.postfix c.in-Postfix.is c.args.start c.args.place c.args.ty.now c.args.fresh.now
    c.narrowed.result c.narrowed.new.fresh c.in_default-step.not-BackLink c.narrowed.ensures

pub nested_behind-returns-in_err-elements : goal.nested_behind-returns-in_err-elements
nested_behind-returns-in_err-elements t c =
    nested_elements_refused c.args.self.now.index.now c.args.self.now.parameters (entries c.args.around.now) c.args.outer.now c.in_ok-subject.subject c.args.name.now c.in_ok-subject.ensures c.args.start c.args.form.now c.args.fresh.now c.args.fresh.now c.numbered_elements.new.fresh
    c.in_err-elements.field-0.0 c.numbered_elements.new.fresh c.from_residual-in_err-elements.result (search rules) c.in_err-elements.ensures

pub nested_behind-returns-in_err-clauses : goal.nested_behind-returns-in_err-clauses
nested_behind-returns-in_err-clauses t c =
    nested_clauses_refused c.args.self.now.index.now c.args.self.now.parameters (entries c.args.around.now) c.args.outer.now c.in_ok-subject.subject c.args.name.now c.in_ok-subject.ensures c.args.start c.args.form.now c.args.fresh.now c.numbered_elements.new.fresh c.numbered_clauses.new.fresh
    c.in_err-clauses.field-0.0 c.numbered_clauses.new.fresh c.in_ok-elements.elements c.from_residual-in_err-clauses.result (search rules) c.in_ok-elements.ensures c.in_err-clauses.ensures

pub nested_behind-returns : goal.nested_behind-returns
nested_behind-returns t c =
    nested_told c.args.self.now.index.now c.args.self.now.parameters (entries c.args.around.now) c.args.outer.now c.in_ok-subject.subject c.args.name.now c.in_ok-subject.ensures c.args.start c.args.form.now c.args.fresh.now c.numbered_elements.new.fresh c.numbered_clauses.new.fresh
    c.in_ok-elements.elements c.in_ok-clauses.clauses c.in_ok-nested_made.field-0 c.in_ok-elements.ensures c.in_ok-clauses.ensures c.in_ok-nested_made.ensures

pub shaped-returns : goal.shaped-returns
shaped-returns t c =
    shaped_told c.args.self.now.index.now c.args.self.now.parameters (entries c.args.around.now) c.args.start c.args.in_result c.args.form.now.shape.span.start c.args.form.now.base c.get.result.now
    (λ u. elements_of c.args.self.now.index.now c.args.self.now.parameters (On u ∷ entries c.args.around.now) c.args.form.now.shape.elements) c.args.fresh.now c.resolve.new.fresh c.shape_behind.new.fresh
    c.in_ok-x.x c.shape_behind.result c.get.ensures c.in_ok-x.ensures c.shape_behind.ensures

pub statement-returns-in_err-defined-in-Select : goal.statement-returns-in_err-defined-in-Select
statement-returns-in_err-defined-in-Select t c =
    select_refused c.args.self.now.index.now c.args.self.now.parameters (entries c.args.around.now) c.args.in_result c.args.x.now c.in-Select.span c.in-Select.aliases c.as_slice.result.now c.as_slice.ensures c.args.fresh.now c.in-Select.form c.in-Select.is
    c.in_err-defined-in-Select.field-0.0 c.aliases.new.fresh c.aliases.new.fresh c.from_residual.result (search rules) c.in_err-defined-in-Select.ensures

pub statement-returns-in_err-defined-in-For : goal.statement-returns-in_err-defined-in-For
statement-returns-in_err-defined-in-For t c =
    for_refused c.args.self.now.index.now c.args.self.now.parameters (entries c.args.around.now) c.args.in_result c.args.x.now c.in-For.span c.in-For.aliases c.as_slice-in-For.result.now c.as_slice-in-For.ensures c.args.fresh.now c.in-For.form c.in-For.is
    c.in_err-defined-in-For.field-0.0 c.aliases-in-For.new.fresh c.aliases-in-For.new.fresh c.from_residual-in_err-defined-in-For.result (search rules) c.in_err-defined-in-For.ensures

pub statement-returns-in_ok-defined-in-Select : goal.statement-returns-in_ok-defined-in-Select
statement-returns-in_ok-defined-in-Select t c =
    select_told c.args.self.now.index.now c.args.self.now.parameters (entries c.args.around.now) c.args.in_result c.args.x.now c.in-Select.span c.in-Select.aliases c.as_slice.result.now c.as_slice.ensures c.args.fresh.now c.in-Select.form c.in-Select.is
    c.in_ok-defined-in-Select.defined c.aliases.new.fresh c.select_behind.new.fresh c.select_behind.result c.in_ok-defined-in-Select.ensures c.select_behind.ensures

pub statement-returns-in_ok-defined-in-For : goal.statement-returns-in_ok-defined-in-For
statement-returns-in_ok-defined-in-For t c =
    for_told c.args.self.now.index.now c.args.self.now.parameters (entries c.args.around.now) c.args.in_result c.args.x.now c.in-For.span c.in-For.aliases c.as_slice-in-For.result.now c.as_slice-in-For.ensures c.args.fresh.now c.in-For.form c.in-For.is
    c.in_ok-defined-in-For.defined c.aliases-in-For.new.fresh c.for_behind.new.fresh c.for_behind.result c.in_ok-defined-in-For.ensures c.for_behind.ensures
