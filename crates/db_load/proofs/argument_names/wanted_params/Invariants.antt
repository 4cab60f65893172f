use Rattle.std.proofs.Common.{◌≡◌, ◌++◌, drop}
use Rattle.db_load.specs.ArgumentValues.{wanted_params as wanted_params_of}
use Rattle.db_load.proofs.argument_names.wanted_params.Given as goal

-- those so far, and those of what is left
abbrev pub invariant-loop-param : goal.invariant-loop-param
invariant-loop-param l = l.all ++ wanted_params_of (drop l.param-index l.params) ≡ wanted_params_of l.fn.params
