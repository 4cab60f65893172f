use Rattle.edge_run.proofs.SchemaLaws.{told_is_decided, made_is_decided}
use Rattle.edge_run.proofs.schema.decide_schema.Goals as goal

pub returns-in-Err : goal.returns-in-Err
returns-in-Err c = told_is_decided c.args.text.now c.in-Err.outcome c.in-Err.ensures

pub returns-in-Ok : goal.returns-in-Ok
returns-in-Ok c = made_is_decided c.args.text.now c.in-Ok.file c.made.result c.in-Ok.ensures c.made.ensures
