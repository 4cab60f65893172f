use Rattle.std.proofs.Common.{◌≡◌, ◌++◌, drop}
use Rattle.sql_encode.specs.Shapes.{named_globals}
use Rattle.sql_encode.proofs.catalog.named_globals.Given as goal

abbrev pub invariant-loop-global : goal.invariant-loop-global
invariant-loop-global l = l.all ++ named_globals (drop l.global-index l.globals) ≡ named_globals l.globals
