use Rattle.db_load.proofs.Loaded.{loaded_fit}
use Rattle.schema_laws.proofs.BuiltSchemas.{well_formed}
use Rattle.edge_run.proofs.laws.accepted_objects_fit.Goals as goal

pub returns : goal.returns
returns c = λ schema_text data_text schema store built loaded. loaded_fit data_text schema store (well_formed built.surface schema built.built) loaded
