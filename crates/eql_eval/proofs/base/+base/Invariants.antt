use Rattle.std.proofs.Common.{drop}
use Rattle.eql_eval.proofs.BaseLaws.{Left}
use Rattle.eql_eval.proofs.base.+base.Given as goal

abbrev pub invariant-find_base_among-loop-expr : goal.invariant-find_base_among-loop-expr
invariant-find_base_among-loop-expr l = Left (drop l.expr-index l.exprs) l.exprs l.number
