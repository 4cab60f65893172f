use Rattle.std.proofs.Common.{◌≡◌, [], Ok, ap, sym, ◌∙◌, inl, subst}
use Rattle.exact.specs.Reading.{Outcome, Got, Stop}
use Rattle.sql_lex.specs.declared.token.Token.{Token}
use Rattle.sql_grammar.specs.declared.grown.GrownSelect.{GrownSelect}
use Rattle.sql_grammar.specs.Promise.{IsStatement}
use Rattle.sql_grammar.proofs.Promise.{all, statement, found, only}
use Rattle.sql_read.proofs.text.read_tokens.Goals as goal

pub returns-in-Ok-clause-found : goal.returns-in-Ok-clause-found
unfolding all statement
returns-in-Ok-clause-found c = subst (λ (s : GrownSelect). IsStatement c.args.tokens.now s) (sym c.into_inner.ensures) (found _ _ _ (ap all (sym c.new-cursor.ensures) ∙ c.in-Ok.ensures))

pub returns-in-Ok-clause-only : goal.returns-in-Ok-clause-only
unfolding all statement
returns-in-Ok-clause-only c = λ s l.
    let e : ◌≡◌ {A = Outcome Token GrownSelect} (Got c.in-Ok.found c.whole_statement.new.tokens) (Got s []) = sym (ap all (sym c.new-cursor.ensures) ∙ c.in-Ok.ensures) ∙ only _ s l in
    let same : c.in-Ok.found ≡ s = cc e in
    inl (ap (λ x. Ok x) (c.into_inner.ensures ∙ same))

pub returns-in-Err-Refused-clause-refused : goal.returns-in-Err-Refused-clause-refused
unfolding all statement
returns-in-Err-Refused-clause-refused c = λ q s l.
    let e : ◌≡◌ {A = Outcome Token GrownSelect} (Stop c.in-Err-Refused.field-0-0 c.whole_statement.new.tokens) (Got s []) =
    sym (ap all (sym c.new-cursor.ensures) ∙ (rw c.in-Err-Refused.field-0-is at c.in-Err-Refused.ensures)) ∙ only _ s l in cc e

pub returns-in-Err-Refused-clause-only : goal.returns-in-Err-Refused-clause-only
unfolding all statement
returns-in-Err-Refused-clause-only c = λ s l.
    let e : ◌≡◌ {A = Outcome Token GrownSelect} (Stop c.in-Err-Refused.field-0-0 c.whole_statement.new.tokens) (Got s []) =
    sym (ap all (sym c.new-cursor.ensures) ∙ (rw c.in-Err-Refused.field-0-is at c.in-Err-Refused.ensures)) ∙ only _ s l in absurd (cc e)
