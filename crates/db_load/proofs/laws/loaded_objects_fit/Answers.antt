use Rattle.db_load.proofs.Loaded.{loaded_fit}
use Rattle.db_load.proofs.laws.loaded_objects_fit.Goals as goal

pub returns : goal.returns
returns c = loaded_fit
