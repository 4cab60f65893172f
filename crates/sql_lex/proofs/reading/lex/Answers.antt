use Rattle.std.proofs.Common.{◌≡◌, true, false, Some, Ok, drop, sym, ap, subst, ◌∙◌, arith, inl}
use Rattle.std.proofs.lemmas.List.{take_rest, length-drop}
use Rattle.sql_lex.specs.Cut.{IsFirstToken}
use Rattle.sql_lex.specs.Reading.{Here}
use Rattle.sql_lex.specs.Token.{BeginsNoToken}
use Rattle.sql_lex.proofs.Readings.{over_byte, take_bytes, stopped_at, cut_at, one_cut}
use Rattle.sql_lex.proofs.reading.lex.Goals as goal

pub loop-at-init : goal.loop-at-init
loop-at-init c = (omega arith, rw c.new-tokens.ensures Here)

pub loop-at-preserved-then-is_blank : goal.loop-at-preserved-then-is_blank
loop-at-preserved-then-is_blank c =
    (omega (arith, c.loop-at-test.true), over_byte c.args.text.now c.loop-at.at c.loop-at.tokens c.loop-at.invariant.1 c.loop-at-test.true (sym c.is_blank.ensures ∙ c.if-is_blank.true))

pub loop-at-preserved : goal.loop-at-preserved
loop-at-preserved c =
    let text = c.args.text.now in let at = c.loop-at.at in let cut = c.in-Some.cut in
    let t : IsFirstToken (drop at text) (Some cut) = subst (λ o. IsFirstToken (drop at text) o) c.in-Some.is (subst (λ x. IsFirstToken x c.in_ok-token.field-0) (take_rest text at) c.in_ok-token.ensures) in (
      omega (arith, t.1, length-drop at text, c.loop-at.invariant.0),
      rw c.in_ok-push-in-Some.ensures.ok (take_bytes text at cut.len cut.kind c.loop-at.tokens c.loop-at.invariant.1 t.1 t.2),
    )

pub returns-in-None-clause-refused : goal.returns-in-None-clause-refused
returns-in-None-clause-refused c = λ e tokens h.
    let text = c.args.text.now in let at = c.loop-at.at in
    let t : BeginsNoToken (drop at text) = subst (λ o. IsFirstToken (drop at text) o) c.in-None.is (subst (λ x. IsFirstToken x c.in_ok-token.field-0) (take_rest text at) c.in_ok-token.ensures) in
    stopped_at text at c.loop-at.tokens tokens c.loop-at.invariant.1 c.loop-at-test.true (λ b. let bad : true ≡ false = sym b ∙ sym c.is_blank.ensures ∙ c.if-is_blank.false in cc bad) t h

pub returns-in-None-clause-only : goal.returns-in-None-clause-only
returns-in-None-clause-only c = λ tokens h.
    let text = c.args.text.now in let at = c.loop-at.at in
    let t : BeginsNoToken (drop at text) = subst (λ o. IsFirstToken (drop at text) o) c.in-None.is (subst (λ x. IsFirstToken x c.in_ok-token.field-0) (take_rest text at) c.in_ok-token.ensures) in
    absurd (stopped_at text at c.loop-at.tokens tokens c.loop-at.invariant.1 c.loop-at-test.true (λ b. let bad : true ≡ false = sym b ∙ sym c.is_blank.ensures ∙ c.if-is_blank.false in cc bad) t h)

pub returns-clause-only : goal.returns-clause-only
returns-clause-only c = λ tokens h. inl (ap (λ t. Ok t) (one_cut c.args.text.now c.loop-at.tokens tokens (cut_at c.args.text.now c.loop-at.at c.loop-at.tokens c.loop-at.invariant.1 c.loop-at.invariant.0 (omega (arith, c.loop-at-test.false))) h))
