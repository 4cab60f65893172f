use Rattle.ev_json.proofs.Printing.{puts_one}
use Rattle.ev_json.proofs.values.put.Goals as goal

pub returns : goal.returns
returns c = puts_one c.args.members.now c.insert.new.self.entries c.in_ok-from_str.field-0 c.args.name.now c.args.value c.in_ok-from_str.ensures.ok c.in_ok-insert.ensures.entries
