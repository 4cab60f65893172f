use Rattle.std.proofs.Common.{◌≡◌, List, ◌∙◌, sym, subst}
use Rattle.sql_lex.specs.declared.token.Token.{Token}
use Rattle.sql_lex.proofs.Readings.{one_cut}
use Rattle.sql_grammar.specs.Promise.{IsStatement}
use Rattle.sql_read.proofs.text.read_text.Goals as goal

pub returns-in-Ok-clause-refused : goal.returns-in-Ok-clause-refused
returns-in-Ok-clause-refused c = λ e s l.
    let same : l.0 ≡ c.as_slice.result.now = one_cut c.args.text.now l.0 c.in-Ok.tokens l.1 c.in-Ok.ensures.found ∙ sym c.as_slice.ensures in
    c.read_tokens.ensures.refused e s (subst (λ (ts : List Token). IsStatement ts s) same l.2)

pub returns-in-Ok-clause-only : goal.returns-in-Ok-clause-only
returns-in-Ok-clause-only c = λ s l.
    let same : l.0 ≡ c.as_slice.result.now = one_cut c.args.text.now l.0 c.in-Ok.tokens l.1 c.in-Ok.ensures.found ∙ sym c.as_slice.ensures in
    c.read_tokens.ensures.only s (subst (λ (ts : List Token). IsStatement ts s) same l.2)
