use Rattle.std.proofs.Common.{rules, sym, ap, subst, ◌∙◌}
use Rattle.eql_forms.specs.Built.{subject, built_statement, IsBuilt, IsPlain}
use Rattle.eql_forms.proofs.Forms.{built_plain}
use Rattle.eql_forms.proofs.built.build_query.Goals as goal

pub returns-in-Select : goal.returns-in-Select
returns-in-Select c =
    let plain : IsPlain c.in-Select.aliases c.in-Select.select.clauses = search rules in
    subst (IsBuilt c.subject.result)
    (ap (subject c.args.schema.now) c.get.ensures ∙ sym (built_plain c.args.schema.now c.in-Select.field-0 c.in-Select.aliases c.in-Select.select plain) ∙ sym (ap (built_statement c.args.schema.now) c.in-Select.is))
    c.subject.ensures
