use Rattle.db_check.proofs.StoreLaws.{stores_in_order}
use Rattle.db_check.proofs.laws.stores_stand_in_order.Goals as goal

pub returns : goal.returns
returns c = stores_in_order
