use Rattle.db_check.proofs.StoreLaws.{places_kept}
use Rattle.db_check.proofs.laws.stores_keep_places.Goals as goal

pub returns : goal.returns
returns c = places_kept
