use Rattle.schema_laws.proofs.BuiltSchemas.{stores_fit}
use Rattle.schema_laws.proofs.laws.stores_of_texts_fit.Goals as goal

pub returns : goal.returns
returns c = stores_fit
