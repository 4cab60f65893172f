-- What was found and what the expressions from here on have.
use Rattle.std.proofs.Common.{◌≡◌, ◌++◌, drop}
use Rattle.std.specs.List.{flat_map}
use Rattle.core_ir.specs.Occurrences.{direct}
use Rattle.core_ir.proofs.occurring.+direct.Given as goal

abbrev pub invariant-collect_direct_of_all-loop-expr : goal.invariant-collect_direct_of_all-loop-expr
invariant-collect_direct_of_all-loop-expr l = l.out ++ flat_map (λ x. direct x l.optional) (drop l.expr-index l.exprs) ≡ l.fn.out ++ flat_map (λ x. direct x l.optional) l.exprs
