use Rattle.ev_json.proofs.Printing.{printed_string}
use Rattle.ev_json.proofs.values.text_value.Goals as goal

pub returns : goal.returns
returns c = printed_string c.in_ok-from_str.field-0 c.args.text.now c.in_ok-from_str.ensures.ok
