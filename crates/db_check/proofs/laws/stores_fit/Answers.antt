use Rattle.db_check.proofs.StoreLaws.{all_fit}
use Rattle.db_check.proofs.laws.stores_fit.Goals as goal

pub returns : goal.returns
returns c = all_fit
