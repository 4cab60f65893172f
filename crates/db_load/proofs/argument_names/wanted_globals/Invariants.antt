use Rattle.std.proofs.Common.{◌≡◌, ◌++◌, drop}
use Rattle.db_load.specs.ArgumentValues.{wanted_globals as wanted_globals_of}
use Rattle.db_load.proofs.argument_names.wanted_globals.Given as goal

-- those so far, and those of what is left
abbrev pub invariant-loop-global : goal.invariant-loop-global
invariant-loop-global l = l.all ++ wanted_globals_of (drop l.global-index l.globals) ≡ wanted_globals_of l.fn.globals
