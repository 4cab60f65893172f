use Rattle.std.proofs.Common.{subst, Err}
use Rattle.db_load.specs.Data.{IsLoaded}
use Rattle.db_draft.specs.declared.refusal.DataRefusal.{DataRefusal}
use Rattle.edge_run.proofs.DataLaws.{loaded_is_decided, refused_is_decided}
use Rattle.edge_run.proofs.data.decide_data.Goals as goal

pub returns-in-Ok : goal.returns-in-Ok
returns-in-Ok c = loaded_is_decided c.args.schema.now c.args.text.now c.in-Ok.store c.in-Ok.ensures

pub returns-in-Err-Rule : goal.returns-in-Err-Rule
returns-in-Err-Rule c =
    refused_is_decided c.args.schema.now c.args.text.now c.in-Err-Rule.broken
    (subst (λ (r : DataRefusal). IsLoaded c.args.text.now c.args.schema.now (Err r)) c.in-Err-Rule.field-0-is c.in-Err-Rule.ensures)
