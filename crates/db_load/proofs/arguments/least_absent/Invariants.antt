use Rattle.std.proofs.Common.{◌≡◌, None, drop}
use Rattle.std.specs.Option.{option_copied}
use Rattle.db_load.specs.Arguments.{least_absent as least_absent_of}
use Rattle.db_load.proofs.arguments.least_absent.Given as goal

-- what is left, with what was found, gives what the whole does
abbrev pub invariant-loop-param : goal.invariant-loop-param
invariant-loop-param l = least_absent_of l.found (option_copied l.least) (drop l.param-index l.params) ≡ least_absent_of l.fn.found None l.fn.params
