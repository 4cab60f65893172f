use Rattle.std.proofs.Common.{◌≡◌, ◌≤◌, true, false, take, drop, sym, ◌∙◌, subst}
use Rattle.std.specs.Str.Parse.{digits_value}
use Rattle.std.proofs.lemmas.List.{take_rest, length-take-le}
use Rattle.ev_lex.specs.Byte.{continues_word, goes_on}
use Rattle.ev_lex.proofs.Cuts.{int_ascii, int_run, int_some, int_token, int_none}
use Rattle.ev_lex.proofs.number.int.Goals as goal

pub returns-then-goes_on_as_word : goal.returns-then-goes_on_as_word
returns-then-goes_on_as_word c =
    let bytes = c.args.bytes.now in let len = c.run-len.result in
    let goes : goes_on continues_word (drop len bytes) ≡ true = subst (λ x. goes_on continues_word x ≡ true) (take_rest bytes len) (sym c.goes_on_as_word.ensures ∙ c.if-goes_on_as_word.true) in
    int_none bytes len c.run-len.ensures.value c.requires (λ v d. let h : true ≡ false = sym goes ∙ d in cc)

pub ascii-digits-requires : goal.ascii-digits-requires
ascii-digits-requires c = int_ascii c.args.bytes.now c.run-len.result c.run-len.ensures.value

pub fits-requires-clause-digits : goal.fits-requires-clause-digits
fits-requires-clause-digits c = rw c.ascii-digits.ensures (int_run c.args.bytes.now c.run-len.result c.run-len.ensures.value)

pub fits-requires-clause-some : goal.fits-requires-clause-some
fits-requires-clause-some c =
    rw (c.ascii-digits.ensures, length-take-le c.run-len.result c.args.bytes.now c.run-len.ensures.within)
    (int_some c.args.bytes.now c.run-len.result c.run-len.ensures.value c.requires)

pub returns-then-not-fits : goal.returns-then-not-fits
returns-then-not-fits c =
    let bytes = c.args.bytes.now in let len = c.run-len.result in
    int_none bytes len c.run-len.ensures.value c.requires
    (λ v d. let h : true ≡ c.fits.result = sym (c.fits.ensures.1 (subst (λ x. digits_value 10 x ≤ 9223372036854775807) (sym c.ascii-digits.ensures) v)) in
    let k : true ≡ false = h ∙ c.if-not-fits.true in cc)

pub returns : goal.returns
returns c =
    let bytes = c.args.bytes.now in let len = c.run-len.result in
    let stops : goes_on continues_word (drop len bytes) ≡ false = subst (λ x. goes_on continues_word x ≡ false) (take_rest bytes len) (sym c.goes_on_as_word.ensures ∙ c.if-goes_on_as_word.false) in
    let small : digits_value 10 (take len bytes) ≤ 9223372036854775807 = subst (λ x. digits_value 10 x ≤ 9223372036854775807) c.ascii-digits.ensures (c.fits.ensures.0 c.if-not-fits.false) in
    rw (c.in_ok-text.ensures, c.ascii-digits.ensures) (int_token bytes len c.run-len.ensures.value c.requires small stops)
