use Rattle.edge_run.proofs.QueryLaws.{told_is_decided, tree_is_decided}
use Rattle.edge_run.proofs.query.decide_query.Goals as goal

pub returns-in-Err : goal.returns-in-Err
returns-in-Err c = told_is_decided c.args.schema.now c.args.text.now c.in-Err.outcome c.in-Err.ensures

pub returns-in-Ok : goal.returns-in-Ok
returns-in-Ok c = tree_is_decided c.args.schema.now c.args.text.now c.in-Ok.query c.tree.result c.in-Ok.ensures c.tree.ensures
