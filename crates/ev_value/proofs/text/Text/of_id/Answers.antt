use Rattle.std.proofs.Common.{◌≡◌, ℕ, List, IfOk, ap, ◌∙◌, subst}
use Rattle.std.specs.Int.{w128, to_be_bytes}
use Rattle.uuid.specs.Text.{hyphenated_text, lower}
use Rattle.ev_value.specs.JsonText.{id_text}
use Rattle.ev_value.proofs.text.Text.of_id.Goals as goal

pub returns : goal.returns
returns c =
    let bytes : List ℕ = c.hyphenated.result in
    let same : bytes ≡ to_be_bytes w128 c.args.id = c.hyphenated.ensures ∙ c.from_u128.ensures in
    let written : c.encode_lower-text.result.now ≡ id_text c.args.id = c.encode_lower-text.ensures.text ∙ ap (hyphenated_text lower) same in
    subst (λ s. IfOk c.from_str.result (λ t. t ≡ s)) written c.from_str.ensures
