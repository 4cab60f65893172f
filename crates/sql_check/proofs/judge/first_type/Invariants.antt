use Rattle.std.proofs.Common.{◌≡◌, drop}
use Rattle.sql_ast.specs.WellFormed.{type_under}
use Rattle.sql_check.proofs.judge.first_type.Given as goal

abbrev pub invariant-loop-arg : goal.invariant-loop-arg
invariant-loop-arg l = type_under l.name (drop l.arg-index l.args) ≡ type_under l.name l.args
