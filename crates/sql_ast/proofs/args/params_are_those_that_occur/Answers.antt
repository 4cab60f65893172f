use Rattle.sql_ast.proofs.ParamsInOrder.{those_that_occur}
use Rattle.sql_ast.proofs.args.params_are_those_that_occur.Goals as goal

pub returns : goal.returns
returns c = those_that_occur
