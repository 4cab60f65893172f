use Rattle.std.specs.Int.{w128, to_be_bytes}
use Rattle.uuid.specs.Text.{hyphenated_text, lower}
use Rattle.std.proofs.Common.{ℕ, ◌≡◌, List, sym, ap, ◌∙◌}
use Rattle.ev_value.specs.JsonText.{json_string, id_text}
use Rattle.ev_json.proofs.Printing.{if_printed}
use Rattle.ev_json.proofs.values.id_value.Goals as goal

pub returns : goal.returns
returns c =
    let bytes : List ℕ = c.hyphenated.result in
    let same : bytes ≡ to_be_bytes w128 c.args.id = c.hyphenated.ensures ∙ c.from_u128.ensures in
    if_printed c.text_value.result _ (json_string (id_text c.args.id)) (ap json_string (sym (c.encode_lower-text.ensures.text ∙ ap (hyphenated_text lower) same))) c.text_value.ensures
