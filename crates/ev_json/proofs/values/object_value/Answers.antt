use Rattle.std.proofs.Common.{codes}
use Rattle.ev_json.proofs.Printing.{printed_member}
use Rattle.ev_json.proofs.values.object_value.Goals as goal

pub returns : goal.returns
returns c = printed_member c.new-members.result c.put.new.members (codes "id") c.in_ok-id_value.field-0 _ c.new-members.ensures.empty c.in_ok-put.ensures c.in_ok-id_value.ensures
