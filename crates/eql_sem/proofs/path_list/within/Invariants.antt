use Rattle.std.proofs.Common.{◌≡◌, drop}
use Rattle.eql_sem.specs.Bindings.{within}
use Rattle.eql_sem.proofs.path_list.within.Given as goal

abbrev pub invariant-loop-prefix : goal.invariant-loop-prefix
invariant-loop-prefix l = within (drop l.prefix-index l.prefixes) l.all ≡ within l.prefixes l.names
