use Rattle.std.proofs.Common.{◌≡◌, ◌++◌, drop}
use Rattle.eql_sem.specs.Bindings.{paths_of}
use Rattle.eql_sem.proofs.binding.paths.Given as goal

abbrev pub invariant-loop-name : goal.invariant-loop-name
invariant-loop-name l = l.all ++ paths_of (drop l.name-index l.names) ≡ paths_of l.names
