use Rattle.schema_laws.proofs.BuiltSchemas.{empty_well_formed}
use Rattle.schema_laws.proofs.laws.empty_schema_is_well_formed.Goals as goal

pub returns : goal.returns
returns c = empty_well_formed
