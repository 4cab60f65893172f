use Rattle.std.proofs.Common.{◌≡◌, ◌≤◌, length, Some, Ok, Err, drop, ap, subst, arith, inl}
use Rattle.std.proofs.lemmas.List.{take_rest, length-drop}
use Rattle.ev_lex.specs.declared.reading.LexRefusal.TheVariants.{S1}
use Rattle.ev_lex.specs.Cut.{IsSeparatorLength, IsFirstToken}
use Rattle.ev_lex.specs.Reading.{Here, IsCut, IsRefused}
use Rattle.ev_lex.proofs.Readings.{over_bytes, take_bytes, refused_at, cut_at, one_cut, one_refusal, cut_not_refused}
use Rattle.ev_lex.proofs.reading.lex.Goals as goal

pub loop-at-init : goal.loop-at-init
loop-at-init c = (omega arith, rw c.new-tokens.ensures Here)

pub loop-at-preserved-then-blank-gt0 : goal.loop-at-preserved-then-blank-gt0
loop-at-preserved-then-blank-gt0 c =
    let text = c.args.text.now in let at = c.loop-at.at in let n = c.separator_len-blank.result in
    let s : IsSeparatorLength (drop at text) n = subst (λ x. IsSeparatorLength x n) (take_rest text at) c.separator_len-blank.ensures in
    (omega (arith, s.0, length-drop at text, c.loop-at.invariant.0), over_bytes text at n c.loop-at.tokens c.loop-at.invariant.1 s c.if-blank-gt0.true)

-- what is told where no token begins
refused : (c : goal.After-drop-tokens-inside-in-None) → IsRefused c.args.text.now c.loop-at.at
refused c =
    let text = c.args.text.now in let at = c.loop-at.at in let n = c.separator_len-blank.result in
    let s : IsSeparatorLength (drop at text) n = subst (λ x. IsSeparatorLength x n) (take_rest text at) c.separator_len-blank.ensures in
    let none : n ≡ 0 = omega (arith, c.if-blank-gt0.false) in
    refused_at text at n c.loop-at.tokens c.loop-at.invariant.1 c.loop-at-test.true s none
    (subst (λ o. IsFirstToken (drop at text) o) c.in-None.is (subst (λ x. IsFirstToken x c.in_ok-token.field-0) (take_rest text at) c.in_ok-token.ensures))

pub returns-in-None-clause-refused : goal.returns-in-None-clause-refused
returns-in-None-clause-refused c = λ byte e. let same : c.loop-at.at ≡ byte = cc e in subst (λ b. IsRefused c.args.text.now b) same (refused c)

pub returns-in-None-clause-only : goal.returns-in-None-clause-only
returns-in-None-clause-only c = λ tokens h. absurd (cut_not_refused c.args.text.now tokens c.loop-at.at h (refused c))

pub returns-in-None-clause-only_refused : goal.returns-in-None-clause-only_refused
returns-in-None-clause-only_refused c = λ byte h. inl (ap (λ b. Err (S1 b)) (one_refusal c.args.text.now c.loop-at.at byte (refused c) h))

pub loop-at-preserved : goal.loop-at-preserved
loop-at-preserved c =
    let text = c.args.text.now in let at = c.loop-at.at in let cut = c.in-Some.cut in
    let t : IsFirstToken (drop at text) (Some cut) = subst (λ o. IsFirstToken (drop at text) o) c.in-Some.is (subst (λ x. IsFirstToken x c.in_ok-token.field-0) (take_rest text at) c.in_ok-token.ensures) in (
      omega (arith, t.1, length-drop at text, c.loop-at.invariant.0),
      rw c.in_ok-push-in-Some.ensures.ok (take_bytes text at cut.len cut.kind c.loop-at.tokens c.loop-at.invariant.1 t.1 t.2),
    )

-- what is told at the end
cut : (c : goal.After-loop-at) → length c.args.text.now ≤ c.loop-at.at → IsCut c.args.text.now c.loop-at.tokens
cut c end = cut_at c.args.text.now c.loop-at.at c.loop-at.tokens c.loop-at.invariant.1 c.loop-at.invariant.0 end

pub returns-clause-only : goal.returns-clause-only
returns-clause-only c = λ tokens h. inl (ap (λ t. Ok t) (one_cut c.args.text.now c.loop-at.tokens tokens (cut c c.loop-at-test.false) h))

pub returns-clause-only_refused : goal.returns-clause-only_refused
returns-clause-only_refused c = λ byte h. absurd (cut_not_refused c.args.text.now c.loop-at.tokens byte (cut c c.loop-at-test.false) h)
