use Rattle.std.proofs.Common.{sym, ap, subst, ◌∙◌}
use Rattle.eql_forms.specs.Built.{base_path, bare_path, IsBuilt}
use Rattle.eql_forms.proofs.Forms.{postfix_path}
use Rattle.eql_forms.proofs.path.path.Goals as goal

pub returns-in-Postfix : goal.returns-in-Postfix
returns-in-Postfix c =
    let schema = c.args.schema.now in
    subst (IsBuilt c.base_path.result)
    (ap (λ base. base_path schema c.in-Postfix.span.start base c.in-Postfix.postfix) c.get.ensures
    ∙ sym (postfix_path schema c.in-Postfix.span c.in-Postfix.base c.in-Postfix.postfix)
    ∙ ap (bare_path schema) (sym c.in-Postfix.is ∙ c.bare.ensures))
    c.base_path.ensures
