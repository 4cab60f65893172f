use Rattle.std.proofs.Common.{◌≡◌, ap, sym, ◌∙◌}
use Rattle.plan.specs.Plan.{tells}
use Rattle.eql_naming.specs.Paths as rule
use Rattle.eql_naming.proofs.Subjects.{behind_base}
use Rattle.eql_naming.proofs.paths.step_behind.Goals as goal

pub returns-in_ok-stepped-in-OnBase : goal.returns-in_ok-stepped-in-OnBase
returns-in_ok-stepped-in-OnBase c =
    ap (λ x. tells (rule.step_behind c.args.start c.args.from c.args.step c.args.place x c.args.fresh.now)) c.in-OnBase.is ∙ behind_base c.args.start c.args.from c.args.step c.args.place c.args.fresh.now c.in-OnBase.field-0 c.in-OnBase.scope c.in-OnBase.o c.in_ok-stepped-in-OnBase.field-0 c.in_ok-stepped-in-OnBase.ensures
