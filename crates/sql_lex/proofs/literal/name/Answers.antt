use Rattle.std.proofs.Common.{◌≡◌, sym, take, length, subst, ap, ◌∙◌}
use Rattle.std.proofs.lemmas.List.{take_rest}
use Rattle.std.specs.List.{prefix_len}
use Rattle.std.specs.Str.{IsUtf8}
use Rattle.sql_lex.specs.Byte.{is_in_name}
use Rattle.sql_lex.proofs.Cuts.{name_none_at, name_token_at}
use Rattle.sql_lex.proofs.literal.name.Goals as goal
use Rattle.sql_lex.proofs.literal.name.Goals.{then-len-eq0-via-then-len-eq0, then-len-eq0-via-else-len-eq0+then-len-behind}

pub returns-then-len-eq0 : goal.returns-then-len-eq0
returns-then-len-eq0 c =
    let bytes = c.args.bytes.now in
    name_none_at bytes c.run-len.result c.requires (subst (λ x. c.run-len.result ≡ prefix_len is_in_name x) (take_rest c.args.bytes.now 1) c.run-len.ensures.value)
    (λ a b u. elim c.then-len-eq0.branch [
      | then-len-eq0-via-then-len-eq0 w ↦ a w.if-len-eq0.true
      | then-len-eq0-via-else-len-eq0+then-len-behind w ↦ b (subst (λ x. c.run-len.result ≡ length x) (take_rest bytes 1) w.if-len-behind.true)
    ])

pub returns-in-Err : goal.returns-in-Err
returns-in-Err c =
    let bytes = c.args.bytes.now in let len = c.run-len.result in
    name_none_at bytes len c.requires (subst (λ x. c.run-len.result ≡ prefix_len is_in_name x) (take_rest c.args.bytes.now 1) c.run-len.ensures.value) (λ a b u. c.in-Err.ensures.cases.0 (subst (λ x. IsUtf8 (take len x)) (sym (take_rest bytes 1)) u))

pub returns-in_ok-from_str-in-Ok : goal.returns-in_ok-from_str-in-Ok
returns-in_ok-from_str-in-Ok c =
    let bytes = c.args.bytes.now in let len = c.run-len.result in
    name_token_at bytes _ len c.requires (subst (λ x. c.run-len.result ≡ prefix_len is_in_name x) (take_rest c.args.bytes.now 1) c.run-len.ensures.value) c.if-len-eq0.false
    (λ e. c.if-len-behind.false (subst (λ x. len ≡ length x) (sym (take_rest bytes 1)) e))
    (subst (λ x. IsUtf8 (take len x)) (take_rest bytes 1) c.in-Ok.ensures.cases.1)
    (c.in_ok-from_str-in-Ok.ensures ∙ c.in-Ok.ensures.cases.0 ∙ ap (λ x. take len x) (take_rest bytes 1))
