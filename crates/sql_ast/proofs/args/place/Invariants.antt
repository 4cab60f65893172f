use Rattle.std.proofs.Common.{◌≡◌, ◌++◌, take, drop}
use Rattle.sql_ast.specs.Params.{with_param}
use Rattle.sql_ast.proofs.args.place.Given as goal

abbrev pub invariant-loop-i : goal.invariant-loop-i
invariant-loop-i l = take l.i l.all ++ with_param (drop l.i l.all) l.param ≡ with_param l.all l.param
