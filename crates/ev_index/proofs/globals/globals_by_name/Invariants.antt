use Rattle.std.proofs.Common.{◌≡◌, drop}
use Rattle.ev_index.specs.Globals.{global_type}
use Rattle.ev_index.specs.Index.{by_name}
use Rattle.ev_index.proofs.Firsts.{with_globals}
use Rattle.ev_index.proofs.globals.globals_by_name.Given as goal

abbrev pub invariant-loop-info : goal.invariant-loop-info
invariant-loop-info l = with_globals (by_name l.found) (drop l.info-index l.globals) ≡ global_type l.globals
