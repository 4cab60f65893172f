use Rattle.std.proofs.Common.{◌≡◌, ◌++◌, drop}
use Rattle.sql_ast.specs.Params.{scalar_params as scalar_params_of}
use Rattle.sql_ast.proofs.args.scalar_params.Given as goal

abbrev pub invariant-loop-arg : goal.invariant-loop-arg
invariant-loop-arg l = l.all ++ scalar_params_of (drop l.arg-index l.args) ≡ scalar_params_of l.args
