use Rattle.std.proofs.Common.{◌≡◌, ◌≤◌, true, false, pos, take, drop, sym, ◌∙◌, subst, rules, w64, to_z, of_z}
use Rattle.std.specs.Str.Parse.{digits_value}
use Rattle.std.proofs.lemmas.List.{take_rest, length-take-le}
use Rattle.sql_lex.specs.Byte.{continues_word, goes_on}
use Rattle.sql_lex.proofs.Cuts.{int_ascii, int_run, int_some, int_token, int_none}
use Rattle.sql_lex.proofs.number.int.Goals as goal

pub returns-then-goes_on_as_word : goal.returns-then-goes_on_as_word
returns-then-goes_on_as_word c =
    let bytes = c.args.bytes.now in let len = c.run-len.result in
    let goes : goes_on continues_word (drop len bytes) ≡ true = subst (λ x. goes_on continues_word x ≡ true) (take_rest bytes len) (sym c.goes_on_as_word.ensures ∙ c.if-goes_on_as_word.true) in
    int_none bytes len c.run-len.ensures.value c.requires (λ v d. let h : true ≡ false = sym goes ∙ d in cc)

pub ascii-requires : goal.ascii-requires
ascii-requires c = int_ascii c.args.bytes.now c.run-len.result c.run-len.ensures.value

pub number-requires-clause-digits : goal.number-requires-clause-digits
number-requires-clause-digits c = rw c.ascii.ensures (int_run c.args.bytes.now c.run-len.result c.run-len.ensures.value)

pub number-requires-clause-some : goal.number-requires-clause-some
number-requires-clause-some c =
    rw (c.ascii.ensures, length-take-le c.run-len.result c.args.bytes.now c.run-len.ensures.within)
    (int_some c.args.bytes.now c.run-len.result c.run-len.ensures.value c.requires)

pub returns-in-None : goal.returns-in-None
returns-in-None c =
    let bytes = c.args.bytes.now in let len = c.run-len.result in
    int_none bytes len c.run-len.ensures.value c.requires
    (λ v d. c.in-None.ensures (subst (λ x. digits_value 10 x ≤ 9223372036854775807) (sym c.ascii.ensures) v))

pub returns-in-Some : goal.returns-in-Some
returns-in-Some c =
    let bytes = c.args.bytes.now in let len = c.run-len.result in
    let stops : goes_on continues_word (drop len bytes) ≡ false = subst (λ x. goes_on continues_word x ≡ false) (take_rest bytes len) (sym c.goes_on_as_word.ensures ∙ c.if-goes_on_as_word.false) in
    let small : digits_value 10 (take len bytes) ≤ 9223372036854775807 = subst (λ x. digits_value 10 x ≤ 9223372036854775807) c.ascii.ensures c.in-Some.ensures.0 in
    let read : to_z w64 (of_z w64 c.in-Some.number) ≡ c.in-Some.number = search rules in
    rw c.cut.ensures (int_token bytes len _ c.run-len.ensures.value c.requires (read ∙ subst (λ x. c.in-Some.number ≡ pos (digits_value 10 x)) c.ascii.ensures c.in-Some.ensures.1) small stops)
