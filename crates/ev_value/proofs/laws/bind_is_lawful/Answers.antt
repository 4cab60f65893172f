use Rattle.ev_value.proofs.Items.{bind_assoc, bind_one, bind_unit, bind_append}
use Rattle.ev_value.proofs.laws.bind_is_lawful.Goals as goal

pub returns : goal.returns
returns g c = record { joined = bind_assoc; over_one = bind_one; of_one = bind_unit; over_two = bind_append }
