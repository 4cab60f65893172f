use Rattle.std.proofs.Common.{rules, ◌+◌, drop, Err, sym, ap, ◌∙◌, subst, arith}
use Rattle.std.proofs.lemmas.Grind.{common_steps}
use Rattle.core_ir.specs.declared.tree.Expr.{Expr}
use Rattle.core_ir.specs.declared.ty.Ty.{Ty}
use Rattle.plan.specs.Plan.{tells}
use Rattle.plan.specs.Ruled.{in_turn, each_with}
use Rattle.type_rules.specs.Known.{known_by}
use Rattle.type_rules.specs.Refusal.{Answers}
use Rattle.type_infer.specs.Rest as rest
use Rattle.type_infer.specs.Typing.{infer, infer_key, behind, scope_of, all_of, scopes_of, alias_of, aliases_of, element_of, elements_of, keys_of}
use Rattle.type_infer.proofs.Equations.{iterator_refused, for_given}
use Rattle.type_infer.proofs.Firsts.{plus_first, cast_first, array_cast_first, unpack_first, of_set_first, array_first, union_first, optional_equal_first, membership_first, coalesce_first, operation_first, set_first, clause_first, elements_first, shaped_given}
use Rattle.type_infer.proofs.Refusals.{given_first}
use Rattle.type_infer.proofs.Turns.{part_typed, part_comes, parts_end, item_typed, items_come, items_end}
use Rattle.type_infer.proofs.typer.Typer.+typing.Goals as goal

pub all-loop-expr-init : goal.all-loop-expr-init
all-loop-expr-init t c =
    let S = c.args.self.now.index.now in
    ap (λ d. tells (in_turn (λ done x. behind done (infer S x)) d c.args.exprs.now (known_by c.args.notes.now))) c.no_exprs-done.ensures

pub all-returns-in_err-part : goal.all-returns-in_err-part
all-returns-in_err-part t c =
    let S = c.args.self.now.index.now in
    let e = part_comes (infer S) c.loop-expr.done c.args.exprs.now c.loop-expr.expr-index (known_by c.loop-expr.notes) (tells (all_of S c.args.exprs.now (known_by c.args.notes.now))) c.expr-item.result c.loop-expr-test.true c.expr-item.is c.loop-expr.invariant in
    first_of (search rules, grind (arith, common_steps))

pub all-loop-expr-preserved : goal.all-loop-expr-preserved
all-loop-expr-preserved t c =
    let S = c.args.self.now.index.now in
    ap (λ d. tells (in_turn (λ done x. behind done (infer S x)) d (drop (c.loop-expr.expr-index + 1) c.args.exprs.now) (known_by c.infer.new.notes))) c.in_ok-done.ensures
    ∙ part_typed (infer S) c.loop-expr.done c.args.exprs.now c.loop-expr.expr-index (known_by c.loop-expr.notes) _ c.expr-item.result c.in_ok-part.part (known_by c.infer.new.notes) c.loop-expr-test.true c.expr-item.is c.loop-expr.invariant c.in_ok-part.ensures

pub all-returns : goal.all-returns
all-returns t c =
    let S = c.args.self.now.index.now in
    parts_end (infer S) c.loop-expr.done c.args.exprs.now c.loop-expr.expr-index (known_by c.loop-expr.notes) _ c.loop-expr-test.false c.loop-expr.invariant

pub scopes-loop-scope-init : goal.scopes-loop-scope-init
scopes-loop-scope-init t c =
    let S = c.args.self.now.index.now in
    ap (λ d. tells (in_turn (λ done s. behind done (scope_of S s)) d c.args.scopes.now (known_by c.args.notes.now))) c.no_scopes-done.ensures

pub scopes-returns-in_err-part : goal.scopes-returns-in_err-part
scopes-returns-in_err-part t c =
    let S = c.args.self.now.index.now in
    let e = part_comes (scope_of S) c.loop-scope.done c.args.scopes.now c.loop-scope.scope-index (known_by c.loop-scope.notes) (tells (scopes_of S c.args.scopes.now (known_by c.args.notes.now))) c.scope-item.result c.loop-scope-test.true c.scope-item.is c.loop-scope.invariant in
    first_of (search rules, grind (arith, common_steps))

pub scopes-loop-scope-preserved : goal.scopes-loop-scope-preserved
scopes-loop-scope-preserved t c =
    let S = c.args.self.now.index.now in
    ap (λ d. tells (in_turn (λ done s. behind done (scope_of S s)) d (drop (c.loop-scope.scope-index + 1) c.args.scopes.now) (known_by c.scope.new.notes))) c.in_ok-done.ensures
    ∙ part_typed (scope_of S) c.loop-scope.done c.args.scopes.now c.loop-scope.scope-index (known_by c.loop-scope.notes) _ c.scope-item.result c.in_ok-part.part (known_by c.scope.new.notes) c.loop-scope-test.true c.scope-item.is c.loop-scope.invariant c.in_ok-part.ensures

pub scopes-returns : goal.scopes-returns
scopes-returns t c =
    let S = c.args.self.now.index.now in
    parts_end (scope_of S) c.loop-scope.done c.args.scopes.now c.loop-scope.scope-index (known_by c.loop-scope.notes) _ c.loop-scope-test.false c.loop-scope.invariant

pub keys-loop-key-init : goal.keys-loop-key-init
keys-loop-key-init t c =
    let S = c.args.self.now.index.now in
    ap (λ d. tells (each_with (λ done k. infer_key S k) d c.args.keys.now (known_by c.args.notes.now))) c.new-done.ensures

pub keys-returns-in_err-typed : goal.keys-returns-in_err-typed
keys-returns-in_err-typed t c =
    let S = c.args.self.now.index.now in
    let e = items_come (infer_key S) c.loop-key.done c.args.keys.now c.loop-key.key-index (known_by c.loop-key.notes) (tells (keys_of S c.args.keys.now (known_by c.args.notes.now))) c.key-item.result c.loop-key-test.true c.key-item.is c.loop-key.invariant in
    first_of (search rules, grind (arith, common_steps))

pub keys-loop-key-preserved : goal.keys-loop-key-preserved
keys-loop-key-preserved t c =
    let S = c.args.self.now.index.now in
    ap (λ d. tells (each_with (λ done k. infer_key S k) d (drop (c.loop-key.key-index + 1) c.args.keys.now) (known_by c.key.new.notes))) c.in_ok-push.ensures.ok
    ∙ item_typed (infer_key S) c.loop-key.done c.args.keys.now c.loop-key.key-index (known_by c.loop-key.notes) _ c.key-item.result c.in_ok-typed.typed (known_by c.key.new.notes) c.loop-key-test.true c.key-item.is c.loop-key.invariant c.in_ok-typed.ensures

pub keys-returns : goal.keys-returns
keys-returns t c =
    let S = c.args.self.now.index.now in
    items_end (infer_key S) c.loop-key.done c.args.keys.now c.loop-key.key-index (known_by c.loop-key.notes) _ c.loop-key-test.false c.loop-key.invariant

pub aliases-loop-alias-init : goal.aliases-loop-alias-init
aliases-loop-alias-init t c =
    let S = c.args.self.now.index.now in
    ap (λ d. tells (each_with (λ done a. alias_of S a) d c.args.aliases.now (known_by c.args.notes.now))) c.new-done.ensures

pub aliases-returns-in_err-typed : goal.aliases-returns-in_err-typed
aliases-returns-in_err-typed t c =
    let S = c.args.self.now.index.now in
    let e = items_come (alias_of S) c.loop-alias.done c.args.aliases.now c.loop-alias.alias-index (known_by c.loop-alias.notes) (tells (aliases_of S c.args.aliases.now (known_by c.args.notes.now))) c.alias-item.result c.loop-alias-test.true c.alias-item.is c.loop-alias.invariant in
    first_of (search rules, grind (arith, common_steps))

pub aliases-loop-alias-preserved : goal.aliases-loop-alias-preserved
aliases-loop-alias-preserved t c =
    let S = c.args.self.now.index.now in
    ap (λ d. tells (each_with (λ done a. alias_of S a) d (drop (c.loop-alias.alias-index + 1) c.args.aliases.now) (known_by c.alias.new.notes))) c.in_ok-push.ensures.ok
    ∙ item_typed (alias_of S) c.loop-alias.done c.args.aliases.now c.loop-alias.alias-index (known_by c.loop-alias.notes) _ c.alias-item.result c.in_ok-typed.typed (known_by c.alias.new.notes) c.loop-alias-test.true c.alias-item.is c.loop-alias.invariant c.in_ok-typed.ensures

pub aliases-returns : goal.aliases-returns
aliases-returns t c =
    let S = c.args.self.now.index.now in
    items_end (alias_of S) c.loop-alias.done c.args.aliases.now c.loop-alias.alias-index (known_by c.loop-alias.notes) _ c.loop-alias-test.false c.loop-alias.invariant

pub elements-loop-element-init : goal.elements-loop-element-init
elements-loop-element-init t c =
    let S = c.args.self.now.index.now in
    ap (λ d. tells (each_with (λ done x. element_of S x) d c.args.elements.now (known_by c.args.notes.now))) c.new-done.ensures

pub elements-returns-in_err-typed : goal.elements-returns-in_err-typed
elements-returns-in_err-typed t c =
    let S = c.args.self.now.index.now in
    let e = items_come (element_of S) c.loop-element.done c.args.elements.now c.loop-element.element-index (known_by c.loop-element.notes) (tells (elements_of S c.args.elements.now (known_by c.args.notes.now))) c.element-item.result c.loop-element-test.true c.element-item.is c.loop-element.invariant in
    first_of (search rules, grind (arith, common_steps))

pub elements-loop-element-preserved : goal.elements-loop-element-preserved
elements-loop-element-preserved t c =
    let S = c.args.self.now.index.now in
    ap (λ d. tells (each_with (λ done x. element_of S x) d (drop (c.loop-element.element-index + 1) c.args.elements.now) (known_by c.element.new.notes))) c.in_ok-push.ensures.ok
    ∙ item_typed (element_of S) c.loop-element.done c.args.elements.now c.loop-element.element-index (known_by c.loop-element.notes) _ c.element-item.result c.in_ok-typed.typed (known_by c.element.new.notes) c.loop-element-test.true c.element-item.is c.loop-element.invariant c.in_ok-typed.ensures

pub elements-returns : goal.elements-returns
elements-returns t c =
    let S = c.args.self.now.index.now in
    items_end (element_of S) c.loop-element.done c.args.elements.now c.loop-element.element-index (known_by c.loop-element.notes) _ c.loop-element-test.false c.loop-element.invariant

pub plus-returns : goal.plus-returns
plus-returns t c = given_first _ _ _ _ _ _ _ (plus_first _ _ _) c.in_ok-operand.ensures (c.plus_of.ensures _)

pub cast-returns : goal.cast-returns
cast-returns t c = given_first _ _ _ _ _ _ _ (cast_first _ _ _ _) c.in_ok-operand.ensures (c.cast_of.ensures _)

pub array_cast-returns : goal.array_cast-returns
array_cast-returns t c = given_first _ _ _ _ _ _ _ (array_cast_first _ _ _ _) c.in_ok-operand.ensures (c.array_cast_of.ensures _)

pub unpack-returns : goal.unpack-returns
unpack-returns t c = given_first _ _ _ _ _ _ _ (unpack_first _ _ _) c.in_ok-operand.ensures (c.unpack_of.ensures _)

pub of_set-returns : goal.of_set-returns
of_set-returns t c = given_first _ _ _ _ _ _ _ (of_set_first _ _ _ _) c.in_ok-set.ensures (c.function_of.ensures _)

pub array-returns : goal.array-returns
array-returns t c = given_first _ _ _ _ _ _ _ (array_first _ _ _ _) c.in_ok-elements.ensures (c.array_of.ensures _)

pub union-returns : goal.union-returns
union-returns t c = given_first _ _ _ _ _ _ _ (union_first _ _ _ _ _) c.in_ok-second.ensures (c.union_of.ensures _)

pub optional_equal-returns : goal.optional_equal-returns
optional_equal-returns t c = given_first _ _ _ _ _ _ _ (optional_equal_first _ _ _ _ _ _) c.in_ok-right.ensures (c.optional_equal_of.ensures _)

pub membership-returns : goal.membership-returns
membership-returns t c = given_first _ _ _ _ _ _ _ (membership_first _ _ _ _ _ _) c.in_ok-set.ensures (c.membership_of.ensures _)

pub coalesce-returns : goal.coalesce-returns
coalesce-returns t c = given_first _ _ _ _ _ _ _ (coalesce_first _ _ _ _ _) c.in_ok-second.ensures (c.coalesce_of.ensures _)

pub operation-returns : goal.operation-returns
operation-returns t c = given_first _ _ _ _ _ _ _ (operation_first _ _ _ _ _) c.in_ok-operands.ensures (c.operation_of.ensures _)

pub set-returns : goal.set-returns
set-returns t c = given_first _ _ _ _ _ _ _ (set_first _ _ _ _) c.in_ok-elements.ensures (c.set_of.ensures _)

pub clause-returns : goal.clause-returns
clause-returns t c = given_first _ _ _ _ _ _ _ (clause_first _ _ _ _) c.in_ok-scope.ensures (c.suited.ensures _)

pub elements_behind-returns : goal.elements_behind-returns
elements_behind-returns t c =
    let S = c.args.self.now.index.now in
    let e = elements_first c.args.byte c.args.number c.args.base (elements_of S c.args.elements.now) (known_by c.args.notes.now) in
    given_first _ _ (λ z. tells (rest.shape c.args.byte c.args.number c.args.base z.0 z.1)) _ _ _ (known_by c.elements.new.notes) e c.in_ok-elements.ensures (c.shape_of.ensures (known_by c.elements.new.notes))

pub shaped-returns : goal.shaped-returns
shaped-returns t c = shaped_given _ _ _ _ _ _ _ _ _ c.in_ok-base.ensures c.elements_behind.ensures

pub infer-returns-in_err-head-in-For : goal.infer-returns-in_err-head-in-For
infer-returns-in_err-head-in-For t c =
    let S = c.args.self.now.index.now in
    let k = known_by c.args.notes.now in
    let f = c.in-For in
    let refused : Answers {A = Expr × Ty} (tells (infer S c.args.expr.now k)) (Err c.in_err-head-in-For.field-0.0) (known_by c.iterated.new.notes) =
    subst (λ (x : Expr). Answers {A = Expr × Ty} (tells (infer S x k)) (Err c.in_err-head-in-For.field-0.0) (known_by c.iterated.new.notes)) (sym f.is)
    (iterator_refused S f.byte f.aliases f.number f.iterator f.body c.in_ok-aliases-in-For.aliases c.in_err-head-in-For.field-0.0 k (known_by c.aliases-in-For.new.notes) (known_by c.iterated.new.notes) (known_by c.iterated.new.notes)
    (ap (λ ds. tells (aliases_of S ds k)) (sym c.as_slice-in-For.ensures) ∙ c.in_ok-aliases-in-For.ensures)
    c.in_err-head-in-For.ensures) in
    first_of (search rules, grind (arith, common_steps))

pub infer-returns-in_ok-head-in-For : goal.infer-returns-in_ok-head-in-For
infer-returns-in_ok-head-in-For t c =
    let S = c.args.self.now.index.now in
    let k = known_by c.args.notes.now in
    let f = c.in-For in
    subst (λ (x : Expr). Answers {A = Expr × Ty} (tells (infer S x k)) c.each.result (known_by c.each.new.notes)) (sym f.is)
    (for_given S f.byte f.aliases f.number f.iterator f.body c.in_ok-aliases-in-For.aliases c.in_ok-head-in-For.head c.each.result k (known_by c.aliases-in-For.new.notes) (known_by c.iterated.new.notes) (known_by c.each.new.notes)
    (ap (λ ds. tells (aliases_of S ds k)) (sym c.as_slice-in-For.ensures) ∙ c.in_ok-aliases-in-For.ensures)
    c.in_ok-head-in-For.ensures c.each.ensures)
