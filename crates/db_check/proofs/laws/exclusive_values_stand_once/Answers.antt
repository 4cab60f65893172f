use Rattle.db_check.proofs.StoreLaws.{exclusive_once}
use Rattle.db_check.proofs.laws.exclusive_values_stand_once.Goals as goal

pub returns : goal.returns
returns c = exclusive_once
