use Rattle.ev_value.proofs.Orders.{values_ordered}
use Rattle.ev_value.proofs.order.values_are_ordered.Goals as goal

pub returns : goal.returns
returns c = values_ordered
