use Rattle.std.proofs.Common.{◌≡◌, ◌++◌, true, drop}
use Rattle.sql_print.specs.Printed.{tokens_of_ty}
use Rattle.sql_print.specs.Lists.{listed}
use Rattle.sql_print.proofs.tokens.+types.Given as goal

abbrev pub invariant-add_types-loop-ty : goal.invariant-add_types-loop-ty
invariant-add_types-loop-ty l = l.all ++ listed tokens_of_ty l.first (drop l.ty-index l.types) ≡ l.fn.all ++ listed tokens_of_ty true l.types
