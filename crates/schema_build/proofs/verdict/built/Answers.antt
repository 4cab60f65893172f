use Rattle.std.proofs.Common.{sym, ◌∙◌}
use Rattle.schema_build.proofs.VerdictLaws.{unbuilt_due, first_due, later_due}
use Rattle.schema_build.proofs.verdict.built.Goals as goal

pub returns-then-some_unbuilt-clause-answer : goal.returns-then-some_unbuilt-clause-answer
returns-then-some_unbuilt-clause-answer c = unbuilt_due c.args.foreign c.args.decls.now c.some_unbuilt.result c.some_unbuilt.ensures c.if-some_unbuilt.true

pub returns-in-Some-clause-answer : goal.returns-in-Some-clause-answer
returns-in-Some-clause-answer c =
    first_due c.args.foreign c.args.decls.now c.some_unbuilt.result c.in_ok-found.found.types c.in-Some.broken c.some_unbuilt.ensures c.if-some_unbuilt.false
    c.in_ok-found.ensures.0 (sym c.in-Some.is ∙ c.in_ok-broken.ensures)

pub returns-clause-answer : goal.returns-clause-answer
returns-clause-answer c =
    later_due c.args.foreign c.args.decls.now c.some_unbuilt.result c.in_ok-found.found.types c.built_later.result c.some_unbuilt.ensures c.if-some_unbuilt.false
    c.in_ok-found.ensures.0 (sym c.in-None.is ∙ c.in_ok-broken.ensures) c.built_later.ensures.later
