use Rattle.std.proofs.Common.{sym, ◌∙◌}
use Rattle.db_values.proofs.TargetLaws.{told_unknown, told_ill, told_none}
use Rattle.db_values.proofs.links.target_flaw.Goals as goal

pub returns-then-some_with_unknown : goal.returns-then-some_with_unknown
returns-then-some_with_unknown c =
    told_unknown c.args.info.now c.args.elements.now c.as_slice-properties.result.now c.as_slice-properties.ensures
    (sym c.some_nameless.ensures ∙ c.if-some_nameless.false) (sym c.some_with_unknown.ensures ∙ c.if-some_with_unknown.true)

pub returns-then-branch : goal.returns-then-branch
returns-then-branch c =
    told_ill c.args.info.now c.args.elements.now c.as_slice-properties.result.now c.as_slice-properties.ensures
    (sym c.some_nameless.ensures ∙ c.if-some_nameless.false) (sym c.some_with_unknown.ensures ∙ c.if-some_with_unknown.false)
    (sym c.in_ok-some_with_ill.ensures ∙ c.if-branch.true)

pub returns : goal.returns
returns c =
    told_none c.args.info.now c.args.elements.now c.as_slice-properties.result.now c.as_slice-properties.ensures
    (sym c.some_nameless.ensures ∙ c.if-some_nameless.false) (sym c.some_with_unknown.ensures ∙ c.if-some_with_unknown.false)
    (sym c.in_ok-some_with_ill.ensures ∙ c.if-branch.false) (sym c.is_lacking.ensures ∙ c.if-is_lacking.false)
