use Rattle.std.proofs.Common.{◌≡◌, [], reverse, fold, length}
use Rattle.sql_ast.specs.Params.{with_param}
use Rattle.sql_ast.proofs.args.in_name_order.Given as goal

abbrev pub invariant-loop-param : goal.invariant-loop-param
invariant-loop-param l = fold with_param l.sorted.items (reverse l.left.items) ≡ fold with_param [] l.fn.args

abbrev pub decreases-loop-param : goal.decreases-loop-param
decreases-loop-param l = length l.left.items
