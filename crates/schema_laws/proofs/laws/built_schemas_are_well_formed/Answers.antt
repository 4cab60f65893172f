use Rattle.schema_laws.proofs.BuiltSchemas.{well_formed}
use Rattle.schema_laws.proofs.laws.built_schemas_are_well_formed.Goals as goal

pub returns : goal.returns
returns c = well_formed
