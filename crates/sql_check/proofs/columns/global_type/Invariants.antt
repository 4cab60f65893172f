use Rattle.std.proofs.Common.{◌≡◌, drop}
use Rattle.sql_ast.specs.WellFormed.{type_under}
use Rattle.sql_check.proofs.columns.global_type.Given as goal

abbrev pub invariant-loop-global : goal.invariant-loop-global
invariant-loop-global l = type_under l.name (drop l.global-index l.globals) ≡ type_under l.name l.globals
